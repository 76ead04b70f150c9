-- Slots: the columns of coordinates that elimination has left.
use Rattle.std.specs.Prelude.{◌≡◌, ℕ, ◌<◌, pos, List, [], ◌∷◌}
use Rattle.poly_num.specs.Vectors.{Vector, ◌·◌}
use Rattle.poly_model.specs.Cones.{at}
use Rattle.linear_laws.specs.Frames.{Column}

-- a slot of coordinate j: its row reads entry j, and its dual vector is 0 beyond entry j
pub record IsSlot (j : ℕ) (c : Column) : Type 0 where
  pub reads : (y : Vector) → c.row · y ≡ at j y
  pub beyond : (i : ℕ) → j < i → at i c.dual ≡ pos 0

-- each column is a slot of the coordinate that stands at its place
abbrev pub AreSlots : List ℕ → List Column → Type 0
AreSlots [] [] = Unit {0}
AreSlots (j ∷ js) (c ∷ cs) = IsSlot j c × AreSlots js cs
AreSlots [] (c ∷ cs) = ⊥
AreSlots (j ∷ js) [] = ⊥
