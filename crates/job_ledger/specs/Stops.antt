-- Why a call of a ledger is refused.
use Rattle.std.specs.Prelude.{◌≡◌, ◌≤◌, ℕ, Result, IsErrOf}
use Rattle.poly_io.specs.Causes.{Rose}
use Rattle.job_ledger.specs.declared.stop.LedgerStop.{LedgerStop}
use Rattle.job_ledger.specs.declared.stop.LedgerStop.TheVariants.{BadLedger, DiskFault, HasRun, LedgerLimit, NoRun}

-- a fault of the disk exactly where its count of faults rose; it never falls
pub record IsCaused {T : Type 0} (before now : ℕ) (result : Result T LedgerStop) : Type 0 where
  pub later : before ≤ now
  pub fault : IsErrOf result DiskFault → Rose before now
  pub same : (IsErrOf result DiskFault → ⊥) → now ≡ before

-- refused by the disk or for want of memory, and by nothing else
pub record StopsByDevice {T : Type 0} (result : Result T LedgerStop) : Type 0 where
  pub none : IsErrOf result NoRun → ⊥
  pub has : IsErrOf result HasRun → ⊥
  pub bad : (place : ℕ) → IsErrOf result (BadLedger place) → ⊥
  pub past : (need most : ℕ) → IsErrOf result (LedgerLimit need most) → ⊥
