-- The unit vectors, each its own dual vector, are a frame over 1.
use Rattle.std.proofs.Common.{◌≡◌, ℕ, zero, suc, ℤ, pos, ◌+ℤ◌, ◌*ℤ◌, List, [], ◌∷◌, map, length, refl, sym, ap, ◌∙◌, arith}
use Rattle.std.proofs.lemmas.Int.{ints}
use Rattle.std.proofs.lemmas.List.{length-map}
use Rattle.std.specs.List.{AllByRecursion}
use Rattle.poly_num.specs.Vectors.{Vector, ◌·◌}
use Rattle.poly_num.proofs.Ring.{lin, mul_zero, zero_mul, mul_one, one_mul, add_zero}
use Rattle.poly_num.proofs.VectorLemmas.{dot_comm, dot-nil}
use Rattle.linear_laws.specs.Frames.{Column, expand, AreApart, AreDual, IsVectorOn, IsFrame}
use Rattle.linear_laws.proofs.Entries.{zeros, length-zeros, zeros-dot}

-- the column with an entry 0 more in front
abbrev pub shifted : Column → Column
shifted c = record { row = pos 0 ∷ c.row; dual = pos 0 ∷ c.dual }

-- 1 and then n zeros
abbrev pub first_column : ℕ → Column
first_column n = record { row = pos 1 ∷ zeros n; dual = pos 1 ∷ zeros n }

-- the columns of the n coordinates, ascending
abbrev pub coordinates : ℕ → List Column
coordinates zero = []
coordinates (suc n) = first_column n ∷ map shifted (coordinates n)

dot-zeros : (g : Vector) (n : ℕ) → g · zeros n ≡ pos 0
dot-zeros g n = dot_comm g (zeros n) ∙ zeros-dot n g

-- an entry 0 in front of either vector changes no product
zero_in_dual : (x : ℤ) (g v : Vector) → (x ∷ g) · (pos 0 ∷ v) ≡ g · v
zero_in_dual x g v = omega (arith, lin, mul_zero x)

zero_in_row : (x : ℤ) (g v : Vector) → (pos 0 ∷ g) · (x ∷ v) ≡ g · v
zero_in_row x g v = omega (arith, lin, zero_mul x)

expand-shifted : (a : ℤ) (g : Vector) (x : ℤ) (y : Vector) (cs : List Column) →
    expand (map shifted cs) (a ∷ g) (x ∷ y) ≡ expand cs g y
expand-shifted a g x y [] = refl
expand-shifted a g x y (c ∷ cs) =
    ap (λ s. s *ℤ ((pos 0 ∷ c.row) · (x ∷ y)) +ℤ expand (map shifted cs) (a ∷ g) (x ∷ y)) (zero_in_dual a g c.dual)
    ∙ ap (λ s. (g · c.dual) *ℤ s +ℤ expand (map shifted cs) (a ∷ g) (x ∷ y)) (zero_in_row x c.row y)
    ∙ ap (λ s. (g · c.dual) *ℤ (c.row · y) +ℤ s) (expand-shifted a g x y cs)

shifted_inside : (n : ℕ) (cs : List Column) → AllByRecursion (λ c. IsVectorOn n [] c.dual) cs →
    AllByRecursion (λ c. IsVectorOn (suc n) [] c.dual) (map shifted cs)
shifted_inside n [] w = tt
shifted_inside n (c ∷ cs) w = ((ap suc w.0.0, tt), shifted_inside n cs w.1)

shifted_apart : (c : Column) (cs : List Column) → AllByRecursion (AreApart c) cs →
    AllByRecursion (AreApart (shifted c)) (map shifted cs)
shifted_apart c [] w = tt
shifted_apart c (e ∷ cs) w = (
  (zero_in_dual (pos 0) c.row e.dual ∙ w.0.0, zero_in_dual (pos 0) e.row c.dual ∙ w.0.1),
  shifted_apart c cs w.1,
)

shifted_dual : (D : ℤ) (cs : List Column) → AreDual D cs → AreDual D (map shifted cs)
shifted_dual D [] d = tt
shifted_dual D (c ∷ cs) d = (zero_in_dual (pos 0) c.row c.dual ∙ d.0, shifted_apart c cs d.1, shifted_dual D cs d.2)

first_apart : (n : ℕ) (cs : List Column) → AllByRecursion (AreApart (first_column n)) (map shifted cs)
first_apart n [] = tt
first_apart n (c ∷ cs) = (
  (
    zero_in_dual (pos 1) (zeros n) c.dual ∙ zeros-dot n c.dual,
    zero_in_row (pos 1) c.row (zeros n) ∙ dot-zeros c.row n,
  ),
  first_apart n cs,
)

expand-nil : (y : Vector) (cs : List Column) → expand cs [] y ≡ pos 0
expand-nil y [] = refl
expand-nil y (c ∷ cs) = omega (arith, lin, zero_mul (c.row · y), expand-nil y cs)

expands_coordinates : (n : ℕ) (g y : Vector) → length y ≡ n → pos 1 *ℤ (g · y) ≡ expand (coordinates n) g y
expands_coordinates zero g [] l = ap (λ s. pos 1 *ℤ s) (dot-nil g) ∙ mul_zero (pos 1)
expands_coordinates zero g (x ∷ y) l = absurd (omega arith)
expands_coordinates (suc n) g [] l = absurd (omega arith)
expands_coordinates (suc n) [] (x ∷ y) l = sym (expand-nil (x ∷ y) (coordinates (suc n)))
expands_coordinates (suc n) (a ∷ g) (x ∷ y) l =
    first a x (g · y) (g · zeros n) (zeros n · y) (expand (coordinates n) g y) (dot-zeros g n) (zeros-dot n y)
    (expands_coordinates n g y (omega arith))
    ∙ ap (λ s. (a *ℤ pos 1 +ℤ g · zeros n) *ℤ (pos 1 *ℤ x +ℤ zeros n · y) +ℤ s)
    (sym (expand-shifted a g x y (coordinates n)))
  where
    ones : (a x s : ℤ) → pos 1 *ℤ (a *ℤ x +ℤ s) ≡ (a *ℤ pos 1 +ℤ pos 0) *ℤ (pos 1 *ℤ x +ℤ pos 0) +ℤ pos 1 *ℤ s
    ones a x s = simp (mul_one, one_mul, add_zero)

    first : (a x s z w e : ℤ) → z ≡ pos 0 → w ≡ pos 0 → pos 1 *ℤ s ≡ e →
        pos 1 *ℤ (a *ℤ x +ℤ s) ≡ (a *ℤ pos 1 +ℤ z) *ℤ (pos 1 *ℤ x +ℤ w) +ℤ e
    first a x s z w e p q r = rw (p, q, ← r) (ones a x s)

pub coordinates_frame : (n : ℕ) → IsFrame n (pos 1) (coordinates n)
coordinates_frame n = record {
  nonzero = λ e. omega (arith, ints);
  inside = inside n;
  duals = duals n;
  expands = λ g y i. expands_coordinates n g y i.0;
}
  where
    inside : (n : ℕ) → AllByRecursion (λ c. IsVectorOn n [] c.dual) (coordinates n)
    inside zero = tt
    inside (suc n) = ((ap suc (length-zeros n), tt), shifted_inside n (coordinates n) (inside n))

    duals : (n : ℕ) → AreDual (pos 1) (coordinates n)
    duals zero = tt
    duals (suc n) = (
      ap (λ s. pos 1 *ℤ pos 1 +ℤ s) (dot-zeros (zeros n) n),
      first_apart n (coordinates n),
      shifted_dual (pos 1) (coordinates n) (duals n),
    )

pub length-coordinates : (n : ℕ) → length (coordinates n) ≡ n
length-coordinates zero = refl
length-coordinates (suc n) = ap suc (length-map (coordinates n) shifted ∙ length-coordinates n)
