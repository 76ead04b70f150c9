-- The answer of `status`, where its ledger is attached first; and counts of faults.
use Rattle.std.specs.Result.{IsErrOf}
use Rattle.std.proofs.Common.{ℕ, List, ◌≡◌, refl, subst, Option, Result}
use Rattle.poly_io.specs.Causes.{RisesAt}
use Rattle.disk_core.specs.declared.disk.Disk.{Ghosts as Disk}
use Rattle.disk_core.specs.Images.{NothingNew}
use Rattle.disk_core.specs.Moments.{LeavesOnly}
use Rattle.disk_core.proofs.Moments.{joined}
use Rattle.lrs_cli.specs.declared.status.Status.{Status}
use Rattle.lrs_cli.specs.declared.status.Status.TheVariants.{DiskFault}
use Rattle.lrs_cli.specs.Ledgers.{RoseAt}
use Rattle.lrs_cli.specs.Progress.{AnswersStatus, TellsProgress}

-- a fault of a call below, at an answer that is another, and at its own
pub rose_not : {T E : Type 0} (stop : E) (result : Result T E) (fault answer : Status) (before now : ℕ) → RisesAt stop before now result → (IsErrOf result stop → ⊥) →
    (answer ≡ fault → ⊥) → RoseAt fault answer before now
rose_not stop result fault answer before now r none other = record { later = r.later; failed = λ e. absurd (other e); same = λ n. r.same none }

pub rose_there : {T E : Type 0} (stop : E) (result : Result T E) (fault : Status) (before now : ℕ) → RisesAt stop before now result → IsErrOf result stop → RoseAt fault fault before now
rose_there stop result fault before now r is = record { later = r.later; failed = λ e. r.failed is; same = λ n. absurd (n refl) }

pub attached : {D : Type 0} (disk : Disk D) (old mid new : D) → disk.seen mid ≡ disk.seen old → NothingNew (disk.images old) (disk.images mid) →
    LeavesOnly disk.moment disk.since old mid (disk.images old) → disk.faults mid ≡ disk.faults old → (written now : Option (List ℕ)) (faults faults' : ℕ) (U : Type 0) (answer : Status) →
    AnswersStatus disk mid new written now faults faults' U answer → AnswersStatus disk old new written now faults faults' U answer
attached disk old mid new same nothing first count written now faults faults' U answer a = record {
  tells = subst (λ (seen : Option (List ℕ)). TellsProgress seen written now U answer) same a.tells;
  leaves = joined disk.moment disk.since old mid new (disk.images old) (disk.images mid) (disk.images old) first a.leaves (λ c i. i) nothing;
  writes = a.writes;
  disk_calls = subst (λ (n : ℕ). RoseAt DiskFault answer n (disk.faults new)) count a.disk_calls;
}
