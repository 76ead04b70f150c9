-- Vectors of whole numbers without a bound, as lists: products, multiples, primitive vectors.
use Rattle.std.specs.Prelude.{◌≡◌, ◌≢◌, ℕ, ◌<◌, ℤ, pos, ◌+ℤ◌, ◌*ℤ◌, List, [], ◌∷◌, map, unsigned_abs}
use Rattle.std.specs.List.{AllByRecursion}
use Prim.Native.Nat.{◌∣◌}

-- a list of whole numbers
abbrev pub Vector : Type 0
Vector = List ℤ

-- the sum of the products; entries past the end of the shorter vector count as 0
infixl 70 ◌·◌
abbrev pub ◌·◌ : Vector → Vector → ℤ
[] · v = pos 0
(x ∷ u) · [] = pos 0
(x ∷ u) · (y ∷ v) = x *ℤ y +ℤ u · v

-- each entry times p
abbrev pub scale : ℤ → Vector → Vector
scale p v = map (λ x. p *ℤ x) v

-- u + v; entries past the end of the shorter vector count as 0
abbrev pub sum_of : Vector → Vector → Vector
sum_of [] v = v
sum_of (x ∷ u) [] = x ∷ u
sum_of (x ∷ u) (y ∷ v) = (x +ℤ y) ∷ sum_of u v

-- each entry is 0
abbrev pub IsZero : Vector → Type 0
IsZero v = AllByRecursion (λ x. x ≡ pos 0) v

-- d divides each entry
abbrev pub DividesEach : ℕ → Vector → Type 0
DividesEach d v = AllByRecursion (λ x. d ∣ unsigned_abs x) v

-- not zero, and 1 is the only positive common divisor of the entries
abbrev pub IsPrimitive : Vector → Type 0
IsPrimitive v = (IsZero v → ⊥) × ((d : ℕ) → 0 < d → DividesEach d v → d ≡ 1)

-- p z = q y for whole p and q, with p not 0
abbrev pub IsMultipleOf : Vector → Vector → Type 0
IsMultipleOf y z = (p : ℤ) × (q : ℤ) × (p ≢ pos 0) × (scale p z ≡ scale q y)
