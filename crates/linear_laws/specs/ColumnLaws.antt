-- Laws of free columns and lines.
use Rattle.std.specs.Prelude.{◌≡◌, ℕ, ℤ, pos, ◌*ℤ◌, ◌<ℤ◌, List, ◌∷◌, ◌++◌, length}
use Rattle.poly_num.specs.Vectors.{Vector, scale, IsZero, IsPrimitive}
use Rattle.poly_model.specs.Independence.{Vanish}
use Rattle.linear_laws.specs.Frames.{Column}
use Rattle.poly_model.specs.Cones.{at}
use Rattle.linear_laws.specs.Slots.{IsSlot}
use Rattle.linear_laws.specs.FreeColumns.{IsFreeColumn, AreFreeColumnsOf, IsLineOf, LeavesSlots}

-- each list of rows can be eliminated
abbrev pub EliminationLeavesSlots : Type 0
EliminationLeavesSlots = (n : ℕ) (rows : List Vector) →
    (columns : List ℕ) × (D : ℤ) × (slots : List Column) × (rest : List Column)
    × LeavesSlots n rows columns D slots rest

-- the coordinates of the slots that elimination leaves are the free columns
abbrev pub FreeColumnsAreTheSlots : Type 0
FreeColumnsAreTheSlots = (n : ℕ) (rows : List Vector) (columns : List ℕ) (D : ℤ)
    (slots rest : List Column) → LeavesSlots n rows columns D slots rest →
    AreFreeColumnsOf n rows columns

-- the free columns are one list
abbrev pub FreeColumnsAreOneList : Type 0
FreeColumnsAreOneList = (n : ℕ) (rows : List Vector) (columns others : List ℕ) →
    AreFreeColumnsOf n rows columns → AreFreeColumnsOf n rows others → columns ≡ others

-- each free column has one line
abbrev pub LineIsOne : Type 0
LineIsOne = (n : ℕ) (rows : List Vector) (j : ℕ) → IsFreeColumn n rows j →
    (y : Vector) × IsLineOf n rows j y × ((z : Vector) → IsLineOf n rows j z → z ≡ y)

-- a primitive vector along the dual vector of a slot, turned so that its entry is positive, is the
-- line of the slot's coordinate
abbrev pub SlotGivesLine : Type 0
SlotGivesLine = (n : ℕ) (rows : List Vector) (columns : List ℕ) (D : ℤ)
    (ls : List Column) (c : Column) (bs rest : List Column) (j : ℕ) (y : Vector) (p q : ℤ) →
    LeavesSlots n rows columns D (ls ++ c ∷ bs) rest → IsSlot j c → IsPrimitive y →
    pos 0 <ℤ p → pos 0 <ℤ (q *ℤ D) → scale p y ≡ scale q c.dual → IsLineOf n rows j y

-- a vector at which the rows are 0 and that is 0 at the free columns is zero
abbrev pub ZeroAtFreeColumnsIsZero : Type 0
ZeroAtFreeColumnsIsZero = (n : ℕ) (rows : List Vector) (y : Vector) → length y ≡ n →
    Vanish rows y → ((j : ℕ) → IsFreeColumn n rows j → at j y ≡ pos 0) → IsZero y
