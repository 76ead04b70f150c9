-- Laws of primitive vectors, of first bases, and of vectors that rows determine but for a factor.
use Rattle.std.specs.Prelude.{◌≡◌, ◌↔◌, ◌⊎◌, ℕ, ◌+◌, Bool, ℤ, neg_ℤ, unsigned_abs, List, ◌++◌, map, length}
use Prim.Native.Nat.{◌∣◌}
use Rattle.poly_num.specs.Vectors.{Vector, scale, IsZero, IsPrimitive, IsMultipleOf}
use Rattle.poly_model.specs.Independence.{Vanish, IsFirstBasis, taken, IsAlone}
use Rattle.linear_laws.specs.NewRows.{AreNew}

-- two primitive vectors, one a multiple of the other, are equal or opposite
abbrev pub PrimitiveIsOneUpToSign : Type 0
PrimitiveIsOneUpToSign = (y z : Vector) → IsPrimitive y → IsPrimitive z → IsMultipleOf y z →
    (z ≡ y) ⊎ (z ≡ map neg_ℤ y)

-- p z = q y where y is primitive: p divides q
abbrev pub PrimitiveFactorDivides : Type 0
PrimitiveFactorDivides = (p q : ℤ) (y z : Vector) → IsPrimitive y → scale p z ≡ scale q y →
    unsigned_abs p ∣ unsigned_abs q

-- over rows that are new one over another, each list of rows has one first basis
abbrev pub FirstBasisIsOne : Type 0
FirstBasisIsOne = (n : ℕ) (before rows : List Vector) →
    (marks : List Bool) × IsFirstBasis n before rows marks
    × ((others : List Bool) → IsFirstBasis n before rows others → others ≡ marks)

-- a vector that is not zero and at which the rows are 0 is alone on them exactly where those before
-- and the first basis of the others are one row less than the width
abbrev pub AloneByCount : Type 0
AloneByCount = (n : ℕ) (before rows : List Vector) (marks : List Bool) (y : Vector) →
    AreNew n before → IsFirstBasis n before rows marks →
    length y ≡ n → Vanish before y → Vanish rows y → (IsZero y → ⊥) →
    IsAlone n (before ++ rows) y ↔ (length (taken before rows marks) + 1 ≡ n)
