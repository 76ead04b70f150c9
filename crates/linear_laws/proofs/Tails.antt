-- Vectors that end in zeros: u, then x, then zeros.
use Rattle.std.proofs.Common.{◌≡◌, ℕ, zero, suc, ◌+◌, ◌<◌, ℤ, pos, ◌+ℤ◌, ◌*ℤ◌, [], ◌∷◌, ◌++◌, length, take, length-append, refl, ap, ◌∙◌, arith}
use Rattle.poly_num.specs.Vectors.{Vector, ◌·◌}
use Rattle.poly_num.proofs.Ring.{lin, mul_zero}
use Rattle.poly_model.specs.Cones.{at}
use Rattle.linear_laws.proofs.Entries.{zeros, at-zeros, length-zeros, zeros-dot}

-- u, then x, then m zeros
abbrev pub with_zeros : Vector → ℤ → ℕ → Vector
with_zeros u x m = u ++ x ∷ zeros m

pub length-with_zeros : (u : Vector) (x : ℤ) (m : ℕ) → length (with_zeros u x m) ≡ length u + 1 + m
length-with_zeros u x m = omega (arith, length-append u (x ∷ zeros m), length-zeros m)

pub with_zeros-dot : (u : Vector) (x : ℤ) (m : ℕ) (g : Vector) → with_zeros u x m · g ≡ u · g +ℤ x *ℤ at (length u) g
with_zeros-dot [] x m [] = omega (arith, lin, mul_zero x)
with_zeros-dot [] x m (a ∷ g) = omega (arith, lin, zeros-dot m g)
with_zeros-dot (b ∷ u) x m [] = omega (arith, lin, mul_zero x)
with_zeros-dot (b ∷ u) x m (a ∷ g) = omega (arith, lin, with_zeros-dot u x m g)

pub at-with_zeros : (u : Vector) (x : ℤ) (m : ℕ) → at (length u) (with_zeros u x m) ≡ x
at-with_zeros [] x m = refl
at-with_zeros (b ∷ u) x m = at-with_zeros u x m

pub with_zeros_beyond : (u : Vector) (x : ℤ) (m i : ℕ) → length u < i → at i (with_zeros u x m) ≡ pos 0
with_zeros_beyond [] x m zero l = absurd (omega arith)
with_zeros_beyond [] x m (suc i) l = at-zeros m i
with_zeros_beyond (b ∷ u) x m zero l = absurd (omega arith)
with_zeros_beyond (b ∷ u) x m (suc i) l = with_zeros_beyond u x m i (omega arith)

-- ---- a vector that is 0 beyond entry j is one of them
ends_in_zeros : (z : Vector) → ((i : ℕ) → at i z ≡ pos 0) → z ≡ zeros (length z)
ends_in_zeros [] h = refl
ends_in_zeros (x ∷ z) h =
    let e : x ≡ pos 0 = h 0 in
    let f = ends_in_zeros z (λ i. h (suc i)) in
    cc

split_at : (j : ℕ) (z : Vector) → j < length z → ((i : ℕ) → j < i → at i z ≡ pos 0) →
    (m : ℕ) × (z ≡ with_zeros (take j z) (at j z) m)
split_at j [] l h = absurd (omega arith)
split_at zero (x ∷ z) l h = (length z, ap (λ t. x ∷ t) (ends_in_zeros z (λ i. h (suc i) (omega arith))))
split_at (suc j) (x ∷ z) l h =
    let w = split_at j z (omega arith) (λ i k. h (suc i) (omega arith)) in
    (w.0, ap (λ t. x ∷ t) w.1)

pub length-take : (j : ℕ) (z : Vector) → j < length z → length (take j z) ≡ j
length-take zero z l = refl
length-take (suc j) [] l = absurd (omega arith)
length-take (suc j) (x ∷ z) l = ap suc (length-take j z (omega arith))

-- its product with g is that of its earlier entries, and one term more
pub dot_to_entry : (j : ℕ) (z g : Vector) → j < length z → ((i : ℕ) → j < i → at i z ≡ pos 0) →
    z · g ≡ take j z · g +ℤ at j z *ℤ at j g
dot_to_entry j z g l h =
    let w = split_at j z l h in
    ap (λ t. t · g) w.1 ∙ with_zeros-dot (take j z) (at j z) w.0 g
    ∙ ap (λ k. take j z · g +ℤ at j z *ℤ at k g) (length-take j z l)
