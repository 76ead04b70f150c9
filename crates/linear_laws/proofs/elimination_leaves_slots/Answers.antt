use Rattle.std.proofs.Common.{List, ℕ, ℤ}
use Rattle.linear_laws.specs.Frames.{Column}
use Rattle.linear_laws.specs.FreeColumns.{LeavesSlots}
use Rattle.linear_laws.proofs.LeftSlots.{Left, elimination_leaves}
use Rattle.linear_laws.proofs.elimination_leaves_slots.Goals as goal

pub returns : goal.returns
returns c n rows = parts (elimination_leaves n rows)
  where
    parts : Left n rows → (columns : List ℕ) × (D : ℤ) × (slots : List Column) × (rest : List Column)
        × LeavesSlots n rows columns D slots rest
    parts e = (e.columns, e.D, e.slots, e.rest, e.leaves)
