-- Lists of independent rows.
use Rattle.std.specs.Prelude.{ℕ, List, [], ◌∷◌}
use Rattle.poly_num.specs.Vectors.{Vector}
use Rattle.poly_model.specs.Independence.{IsNew}

-- each row is new over those that stand after it
abbrev pub AreNew : ℕ → List Vector → Type 0
AreNew n [] = Unit {0}
AreNew n (g ∷ gs) = IsNew n gs g × AreNew n gs
