-- What stands at a gate.
use Rattle.std.proofs.Common.{◌≡◌, ◌∷◌, ℕ, List}
use Rattle.job_ledger.specs.Entries.{IsBehindGate, IsEntry}
use Rattle.job_ledger.specs.declared.entry.Entry.{Entry}
use Rattle.job_ledger.specs.declared.entry.Entry.TheVariants.{Broken, Closed, Record}

-- an open gate and what is behind it
pub open_entry : (entry : Entry) (text behind : List ℕ) → text ≡ 245 ∷ behind → IsBehindGate entry behind → IsEntry entry text
open_entry Closed text behind gate none = absurd none
open_entry (Record len) text behind gate here = (behind, gate, here)
open_entry Broken text behind gate here = (behind, gate, here)
