-- What a call leaves on the disk.
use Rattle.std.specs.Prelude.{◌≡◌, ℕ, List, [], ◌∷◌, ◌++◌, length}
use Rattle.disk_core.specs.declared.disk.Disk.{Ghosts as Disk}
use Rattle.disk_core.specs.Moments.{LeavesOnly}
use Rattle.job_ledger.specs.Records.{Records}
use Rattle.job_ledger.specs.Ledgers.{IsLedgerAt, IsPastLimit, Known, payload_sizes}

-- the file has these records and then some first ones of these texts
pub record HasFront (records texts : List (List ℕ)) (file : List ℕ) : Type 0 where
  pub front : List (List ℕ)
  pub rest : List (List ℕ)
  pub split : texts ≡ front ++ rest
  pub has : Records (records ++ front) file

-- where the ledger was at its records, each image since then has them and some first ones of these texts
abbrev pub LeavesFronts : {D : Type 0} → Disk D → D → D → Known → List (List ℕ) → Type 0
LeavesFronts {D} disk old new ledger texts =
    (records : List (List ℕ)) → IsLedgerAt ledger records (disk.seen old) (disk.images old) →
    LeavesOnly disk.moment disk.since old new (HasFront records texts)

-- the ledger has these texts behind its records
pub record Adds {D : Type 0} (disk : Disk D) (old new : D) (ledger ledger' : Known) (texts : List (List ℕ)) : Type 0 where
  pub knows : ledger' ≡ record { limit = ledger.limit; sizes = ledger.sizes ++ payload_sizes texts }
  pub kept : (records : List (List ℕ)) → IsLedgerAt ledger records (disk.seen old) (disk.images old) →
      IsLedgerAt ledger' (records ++ texts) (disk.seen new) (disk.images new)
  pub leaves : LeavesFronts disk old new ledger texts

-- the last of the texts would pass the limit, behind records of these sizes and the texts before it
pub record IsRefusedBy (ledger : Known) (texts : List (List ℕ)) (need most : ℕ) : Type 0 where
  pub before : List (List ℕ)
  pub text : List ℕ
  pub split : texts ≡ before ++ text ∷ []
  pub past : IsPastLimit (record { limit = ledger.limit; sizes = ledger.sizes ++ payload_sizes before }) (length text) need most
