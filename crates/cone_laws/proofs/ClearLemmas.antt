-- A vector made 0 at the free columns by adding lines: a form that follows from the rows is there a
-- positive multiple of what it was.
use Rattle.std.proofs.Common.{◌≡◌, ◌≢◌, ⊎_elim, ℕ, ◌<◌, ℤ, pos, ◌+ℤ◌, ◌*ℤ◌, neg_ℤ, List, [], ◌∷◌, length, sym, ap, subst, ◌∙◌, arith}
use Rattle.std.specs.Prelude.{◌<ℤ◌}
use Rattle.std.proofs.lemmas.Int.{ints}
use Rattle.std.specs.List.{Contains}
use Rattle.poly_num.specs.Vectors.{Vector, ◌·◌}
use Rattle.poly_num.proofs.Ring.{lin, mul_assoc, mul_zero, one_mul}
use Rattle.poly_num.proofs.Order.{positive_product}
use Rattle.poly_model.specs.Keys.{IsAscending}
use Rattle.poly_model.specs.Cones.{at}
use Rattle.poly_model.specs.Independence.{Follows}
use Rattle.linear_laws.specs.FreeColumns.{IsFreeColumn, IsLineOf}
use Rattle.linear_laws.proofs.Members.{Contains-nil, Contains-first, Contains-later, Contains-cons_cases, all_at}
use Rattle.linear_laws.proofs.Combinations.{combination, dot-combination, length-combination, zero_combination, cancels}
use Rattle.linear_laws.proofs.Entries.{at-combination}
use Rattle.linear_laws.proofs.LineLemmas.{some_line}

-- z is 0 at the columns, and each form that follows from the rows is `factor` times there what it is at y
pub record Cleared (n : ℕ) (rows : List Vector) (columns : List ℕ) (y : Vector) : Type 0 where
  pub z : Vector
  pub factor : ℤ
  pub positive : pos 0 <ℤ factor
  pub width : length z ≡ n
  pub values : (g : Vector) → Follows n rows g → g · z ≡ factor *ℤ (g · y)
  pub zero : (k : ℕ) → Contains columns k → at k z ≡ pos 0

value_kept : (e x p y q l : ℤ) → x ≡ p *ℤ y → l ≡ pos 0 → e *ℤ x +ℤ q *ℤ l ≡ (e *ℤ p) *ℤ y
value_kept e x p y q l f g =
    let a = ap (λ (t : ℤ). e *ℤ t) f ∙ sym (mul_assoc e p y) in
    let b = ap (λ (t : ℤ). q *ℤ t) g ∙ mul_zero q in
    omega (arith, lin)

module _ (n : ℕ) (rows : List Vector) (y : Vector) where
  nothing_to_clear : length y ≡ n → Cleared n rows [] y
  nothing_to_clear l = record {
    z = y;
    factor = pos 1;
    positive = omega (arith, ints);
    width = l;
    values = λ g f. sym (one_mul (g · y));
    zero = λ k m. absurd (Contains-nil k m);
  }

  -- ---- one column more: a multiple of its line takes the entry away
  module _ (j : ℕ) (js : List ℕ) (line : Vector) (h : IsLineOf n rows j line) (c : Cleared n rows js y) where
    difference : Vector
    difference = combination (at j line) c.z (neg_ℤ (at j c.z)) line

    value_of : (g : Vector) → Follows n rows g → g · difference ≡ (at j line *ℤ c.factor) *ℤ (g · y)
    unfolding difference
    value_of g w =
        let e = dot-combination g (at j line) c.z (neg_ℤ (at j c.z)) line in
        let f = w line h.width h.vanishing in
        e ∙ value_kept (at j line) (g · c.z) c.factor (g · y) (neg_ℤ (at j c.z)) (g · line) (c.values g w) f

    zero_here : at j difference ≡ pos 0
    unfolding difference
    zero_here = at-combination j (at j line) c.z (neg_ℤ (at j c.z)) line ∙ cancels (at j line) (at j c.z)

    zero_before : (k : ℕ) → Contains js k → at k line ≡ pos 0 → at k difference ≡ pos 0
    unfolding difference
    zero_before k m e =
        at-combination k (at j line) c.z (neg_ℤ (at j c.z)) line
        ∙ zero_combination (at j line) (at k c.z) (neg_ℤ (at j c.z)) (at k line) (c.zero k m) e

    clear_one : ((k : ℕ) → Contains js k → at k line ≡ pos 0) → Cleared n rows (j ∷ js) y
    unfolding difference
    clear_one f = record {
      z = difference;
      factor = at j line *ℤ c.factor;
      positive = positive_product (at j line) c.factor h.here c.positive;
      width = length-combination n (at j line) c.z (neg_ℤ (at j c.z)) line c.width h.width;
      values = value_of;
      zero = λ k m.
          ⊎_elim (λ e. subst (λ i. at i difference ≡ pos 0) e zero_here) (λ q. zero_before k q (f k q))
          (Contains-cons_cases k j js m);
    }

  pub cleared : length y ≡ n → (columns : List ℕ) → IsAscending columns →
      ((k : ℕ) → Contains columns k → IsFreeColumn n rows k) → Cleared n rows columns y
  cleared l [] a f = nothing_to_clear l
  cleared l (j ∷ js) a f =
      let w = some_line n rows j (f j (Contains-first j js)) in
      let free = λ (k : ℕ) (m : Contains js k). f k (Contains-later k j js m) in
      clear_one j js w.0 w.1 (cleared l js a.1 free)
      (λ k m. w.1.elsewhere k (free k m) (apart k (all_at (λ i. j < i) js a.0 k m)))
    where
      apart : (k : ℕ) → j < k → k ≢ j
      apart k q e = omega arith
