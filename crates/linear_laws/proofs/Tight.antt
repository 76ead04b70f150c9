-- The rows tight at a vector as a list, and how many rows are not.
use Rattle.std.proofs.Common.{◌≡◌, ◌≢◌, ◌⊎◌, inl, inr, ℕ, zero, suc, ◌+◌, ◌<◌, ◌≤◌, ℤ, pos, negsuc, List, [], ◌∷◌, refl, ap, sym, ◌∙◌, subst, arith}
use lib.IntN.{ℤ_discrete}
use Rattle.std.specs.List.{Contains}
use Rattle.poly_num.specs.Vectors.{Vector, ◌·◌}
use Rattle.poly_model.specs.Independence.{Vanish}
use Rattle.linear_laws.specs.Corners.{IsOnTight}
use Rattle.linear_laws.proofs.Members.{Contains-nil, Contains-cons_cases}

-- g in front of the rows if the number is 0
abbrev pub cons_if_zero : ℤ → Vector → List Vector → List Vector
cons_if_zero (pos zero) g gs = g ∷ gs
cons_if_zero (pos (suc n)) g gs = gs
cons_if_zero (negsuc n) g gs = gs

-- the rows that are 0 at y
abbrev pub tight_at : Vector → List Vector → List Vector
tight_at y [] = []
tight_at y (g ∷ gs) = cons_if_zero (g · y) g (tight_at y gs)

zero_and_rest : (x : ℤ) (g : Vector) (gs : List Vector) (z : Vector) → Vanish (cons_if_zero x g gs) z →
    (x ≡ pos 0 → g · z ≡ pos 0) × Vanish gs z
zero_and_rest (pos zero) g gs z v = (λ e. v.0, v.1)
zero_and_rest (pos (suc n)) g gs z v = (λ e. absurd (cc), v)
zero_and_rest (negsuc n) g gs z v = (λ e. absurd (cc), v)

from_zero_and_rest : (x : ℤ) (g : Vector) (gs : List Vector) (z : Vector) → (x ≡ pos 0 → g · z ≡ pos 0) →
    Vanish gs z → Vanish (cons_if_zero x g gs) z
from_zero_and_rest (pos zero) g gs z h v = (h refl, v)
from_zero_and_rest (pos (suc n)) g gs z h v = v
from_zero_and_rest (negsuc n) g gs z h v = v

pub on_tight_from_vanish : (y z : Vector) (gs : List Vector) → Vanish (tight_at y gs) z → IsOnTight y gs z
on_tight_from_vanish y z [] v = tt
on_tight_from_vanish y z (g ∷ gs) v =
    let w = zero_and_rest (g · y) g (tight_at y gs) z v in (w.0, on_tight_from_vanish y z gs w.1)

pub vanish_from_on_tight : (y z : Vector) (gs : List Vector) → IsOnTight y gs z → Vanish (tight_at y gs) z
vanish_from_on_tight y z [] h = tt
vanish_from_on_tight y z (g ∷ gs) h =
    from_zero_and_rest (g · y) g (tight_at y gs) z h.0 (vanish_from_on_tight y z gs h.1)

pub on_tight_itself : (y : Vector) (gs : List Vector) → IsOnTight y gs y
on_tight_itself y [] = tt
on_tight_itself y (g ∷ gs) = (λ e. e, on_tight_itself y gs)

-- a row that is not 0 is left out
pub left_out : (x : ℤ) (g : Vector) (gs : List Vector) → x ≢ pos 0 → cons_if_zero x g gs ≡ gs
left_out (pos zero) g gs n = absurd (n refl)
left_out (pos (suc k)) g gs n = refl
left_out (negsuc k) g gs n = refl

-- ---- how many are not tight
-- 0 for 0, and 1 for every other number
abbrev one_unless_zero : ℤ → ℕ
one_unless_zero (pos zero) = 0
one_unless_zero (pos (suc n)) = 1
one_unless_zero (negsuc n) = 1

-- how many of the rows are not 0 at y
abbrev pub loose_at : Vector → List Vector → ℕ
loose_at y [] = 0
loose_at y (g ∷ gs) = one_unless_zero (g · y) + loose_at y gs

one_if_not_zero : (x : ℤ) → x ≢ pos 0 → one_unless_zero x ≡ 1
one_if_not_zero (pos zero) n = absurd (n refl)
one_if_not_zero (pos (suc k)) n = refl
one_if_not_zero (negsuc k) n = refl

one_at_most : (x : ℤ) → one_unless_zero x ≤ 1
one_at_most (pos zero) = omega arith
one_at_most (pos (suc k)) = omega arith
one_at_most (negsuc k) = omega arith

no_more : (x y : ℤ) → (x ≡ pos 0 → y ≡ pos 0) → one_unless_zero y ≤ one_unless_zero x
no_more x y h = by (ℤ_discrete x (pos 0))
  where
    by : Dec (x ≡ pos 0) → one_unless_zero y ≤ one_unless_zero x
    by (yes e) = let f = ap one_unless_zero (h e) in omega arith
    by (no n) = omega (arith, one_at_most y, one_if_not_zero x n)

loose_no_more : (y z : Vector) (gs : List Vector) → IsOnTight y gs z → loose_at z gs ≤ loose_at y gs
loose_no_more y z [] h = omega arith
loose_no_more y z (g ∷ gs) h = omega (arith, no_more (g · y) (g · z) h.0, loose_no_more y z gs h.1)

-- fewer rows are loose at z than at y if tight rows stay tight and one more becomes so
pub loose_fewer : (y z : Vector) (gs : List Vector) → IsOnTight y gs z → (k : Vector) → Contains gs k →
    k · y ≢ pos 0 → k · z ≡ pos 0 → loose_at z gs < loose_at y gs
loose_fewer y z [] h k m n e = absurd (Contains-nil k m)
loose_fewer y z (g ∷ gs) h k m n e = by (Contains-cons_cases k g gs m) (λ q. loose_fewer y z gs h.1 k q n e)
  where
    by : (g ≡ k) ⊎ Contains gs k → (Contains gs k → loose_at z gs < loose_at y gs) →
        loose_at z (g ∷ gs) < loose_at y (g ∷ gs)
    by (inl s) go =
        let a = one_if_not_zero (g · y) (subst (λ t. t · y ≢ pos 0) (sym s) n) in
        let b = ap one_unless_zero (ap (λ t. t · z) s ∙ e) in
        omega (arith, loose_no_more y z gs h.1)
    by (inr q) go = omega (arith, no_more (g · y) (g · z) h.0, go q)
