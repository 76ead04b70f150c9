-- How a call comes to its end, on the disk and in what is printed.
use Rattle.std.specs.Prelude.{◌≡◌, ℕ, List, ◌++◌, Option, Some, Result}
use Rattle.poly_model.specs.declared.listed.Listed.{Listed}
use Rattle.poly_model.specs.Systems.{Polyhedron}
use Rattle.work_core.specs.Searches.{Search}
use Rattle.job_text.specs.declared.reply.Reply.{Reply}
use Rattle.disk_core.specs.declared.disk.Disk.{Ghosts as Disk}
use Rattle.disk_core.specs.Images.{Images, Only}
use Rattle.job_ledger.specs.Records.{Records}
use Rattle.job_ledger.specs.Ledgers.{IsLedgerAt, Known}
use Rattle.run_state.specs.Payloads.{IsLedgerText}
use Rattle.run_ledger.specs.Printing.{WritesRun}

-- the file has these records, and a crash leaves it as it is
pub record Rests (records : List (List ℕ)) (seen : Option (List ℕ)) (images : Images) : Type 0 where
  pub file : List ℕ
  pub told : seen ≡ Some file
  pub has : Records records file
  pub settled : Only file images

-- where the ledger was at its records, the file rests with them and the texts
abbrev pub RestsWith : {D : Type 0} → Disk D → D → D → Known → List (List ℕ) → Type 0
RestsWith {D} disk old new ledger texts =
    (records : List (List ℕ)) → IsLedgerAt ledger records (disk.seen old) (disk.images old) →
    Rests (records ++ texts) (disk.seen new) (disk.images new)

-- and where these are a ledger text of this polyhedron, what it records is printed
abbrev pub PrintsWith : {D E : Type 0} → Disk D → D → Known → List (List ℕ) → Polyhedron → Option (List ℕ) → Option (List ℕ) → Result Listed E → Type 0
PrintsWith {D} {E} disk old ledger texts p written written' result =
    (records : List (List ℕ)) (s : Search) (replies : List Reply) → IsLedgerAt ledger records (disk.seen old) (disk.images old) →
    IsLedgerText s replies (records ++ texts) → s.polyhedron ≡ p → WritesRun s replies written written' result
