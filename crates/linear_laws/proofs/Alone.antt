-- A vector is alone on rows exactly where their first basis has one row less than the width.
use Rattle.std.proofs.Common.{◌≡◌, ◌≢◌, ◌↔◌, Bool, ℕ, ◌+◌, ℤ, pos, ◌*ℤ◌, List, [], ◌∷◌, ◌++◌, length, refl, sym, ap, ◌∙◌, subst, arith}
use Rattle.poly_num.specs.Vectors.{Vector, ◌·◌, scale, IsZero, IsMultipleOf}
use Rattle.poly_num.proofs.Ring.{mul_zero, zero_mul}
use Rattle.poly_num.proofs.Order.{zero_factor, mul_nonzero}
use Rattle.poly_model.specs.Independence.{Vanish, IsFirstBasis, taken, IsAlone}
use Rattle.linear_laws.specs.Frames.{Column, IsFrame}
use Rattle.linear_laws.specs.NewRows.{AreNew}
use Rattle.linear_laws.proofs.AllLemmas.{all_left, all_right, all_both}
use Rattle.linear_laws.proofs.Proportions.{zero_by_forms, values_from_multiples, multiple_along, factor_nonzero}
use Rattle.linear_laws.proofs.Columns.{rows_vanish_at, along_first, zero_where_rows}
use Rattle.linear_laws.proofs.Elimination.{Reached, Eliminated, rest_from_vanish, vanish_from_rest}
use Rattle.linear_laws.proofs.FirstBases.{first_unique, taken_enough, taken_of, eliminate_over}

module _ {n : ℕ} {before : List Vector} (r : Reached n before) where
  -- ---- no slot is left
  pub zero_from_none : r.slots ≡ [] → (y : Vector) → length y ≡ n → Vanish before y → IsZero y
  zero_from_none none y l v =
      let f : IsFrame n r.D r.rest = subst (λ t. IsFrame n r.D (t ++ r.rest)) none r.frame in
      zero_by_forms y (λ g. zero_where_rows f y (l, tt) (rest_from_vanish r y v) g)

  -- ---- one slot is left
  -- the vectors at which the rows are 0 are along its dual vector
  pub along_slot : (c : Column) → r.slots ≡ c ∷ [] → (y : Vector) → length y ≡ n → Vanish before y →
      scale r.D y ≡ scale (c.row · y) c.dual
  along_slot c one y l v =
      let f : IsFrame n r.D (c ∷ r.rest) = subst (λ t. IsFrame n r.D (t ++ r.rest)) one r.frame in
      along_first f y (l, tt) (rest_from_vanish r y v)

  pub alone_from_one : (c : Column) → r.slots ≡ c ∷ [] → (y : Vector) → length y ≡ n → Vanish before y →
      (IsZero y → ⊥) → IsAlone n before y
  alone_from_one c one y l v nz z k w =
      let e = along_slot c one y l v in
      let f = along_slot c one z k w in
      multiple_along r.D (c.row · y) r.D (c.row · z) z y c.dual
      (factor_nonzero r.D (c.row · y) y c.dual r.frame.nonzero nz e) r.frame.nonzero e f

  -- ---- two slots are left
  module _ (c e : Column) (cs : List Column) (two : r.slots ≡ c ∷ e ∷ cs) where
    pub two_frame : IsFrame n r.D (c ∷ e ∷ cs ++ r.rest)
    two_frame = subst (λ t. IsFrame n r.D (t ++ r.rest)) two r.frame

    pub vanish_at_first : Vanish before c.dual
    vanish_at_first =
        let all = rows_vanish_at c (e ∷ cs ++ r.rest) two_frame.duals.1 in
        vanish_from_rest r c.dual (all_right (λ b. b.row · c.dual ≡ pos 0) (e ∷ cs) r.rest all)

    pub vanish_at_second : Vanish before e.dual
    vanish_at_second =
        let all = rows_vanish_at e (cs ++ r.rest) two_frame.duals.2.1 in
        vanish_from_rest r e.dual (all_right (λ b. b.row · e.dual ≡ pos 0) cs r.rest all)

    -- the two dual vectors are not multiples of one vector
    pub not_alone_from_two : (y : Vector) → IsAlone n before y → ⊥
    not_alone_from_two y h =
        by (h c.dual two_frame.inside.0.0 vanish_at_first) (h e.dual two_frame.inside.1.0.0 vanish_at_second)
      where
        clash : (p q p' q' D a b : ℤ) → p ≢ pos 0 → p' ≢ pos 0 → D ≢ pos 0 →
            p *ℤ D ≡ q *ℤ a → p *ℤ pos 0 ≡ q *ℤ b → p' *ℤ D ≡ q' *ℤ b → ⊥
        clash p q p' q' D a b hp hp' hD s t u = mul_nonzero p' D hp' hD (u ∙ ap (λ x. q' *ℤ x) b_zero ∙ mul_zero q')
          where
            q_nonzero : q ≢ pos 0
            q_nonzero z = mul_nonzero p D hp hD (s ∙ ap (λ x. x *ℤ a) z ∙ zero_mul a)

            b_zero : b ≡ pos 0
            b_zero = zero_factor q b (sym t ∙ mul_zero p) q_nonzero

        by : IsMultipleOf y c.dual → IsMultipleOf y e.dual → ⊥
        by (p, q, np, m) (p', q', np', m') =
            clash p q p' q' r.D (c.row · y) (e.row · y) np np' two_frame.nonzero
            (sym (ap (λ t. p *ℤ t) two_frame.duals.0) ∙ values_from_multiples p q c.dual y m c.row)
            (sym (ap (λ t. p *ℤ t) two_frame.duals.1.0.1) ∙ values_from_multiples p q c.dual y m e.row)
            (sym (ap (λ t. p' *ℤ t) two_frame.duals.2.0) ∙ values_from_multiples p' q' e.dual y m' e.row)

-- ---- of a list of rows, over rows before that are new
module _ (n : ℕ) (before gs : List Vector) (e : Eliminated n before gs) where
  pub alone_from_taken : (y : Vector) → IsAlone n (taken before gs e.marks) y → IsAlone n (before ++ gs) y
  alone_from_taken y h z l v =
      let b = all_left (λ g. g · z ≡ pos 0) before gs v in
      let w = all_right (λ g. g · z ≡ pos 0) before gs v in
      h z l (taken_of before gs e.marks z b w)

  pub taken_from_alone : (y : Vector) → IsAlone n (before ++ gs) y → IsAlone n (taken before gs e.marks) y
  taken_from_alone y h z l v =
      let w = taken_enough n before gs e.marks e.first z l v in
      h z l (all_both (λ g. g · z ≡ pos 0) before gs w.0 w.1)

  pub alone_by_elimination : (y : Vector) → length y ≡ n → Vanish before y → Vanish gs y → (IsZero y → ⊥) →
      IsAlone n (before ++ gs) y ↔ (length (taken before gs e.marks) + 1 ≡ n)
  alone_by_elimination y l b v nz = by e.reached.slots refl
    where
      here : Vanish (taken before gs e.marks) y
      here = taken_of before gs e.marks y b v

      by : (cs : List Column) → e.reached.slots ≡ cs →
          IsAlone n (before ++ gs) y ↔ (length (taken before gs e.marks) + 1 ≡ n)
      by [] s = absurd (nz (zero_from_none e.reached s y l here))
      by (c ∷ []) s = (
        λ h. omega (arith, e.reached.count, ap length s),
        λ k. alone_from_taken y (alone_from_one e.reached c s y l here nz),
      )
      by (c ∷ d ∷ cs) s = (
        λ h. absurd (not_alone_from_two e.reached c d cs s y (taken_from_alone y h)),
        λ k. absurd (omega (arith, e.reached.count, ap length s)),
      )

pub alone_by_first_basis : (n : ℕ) (before gs : List Vector) (ms : List Bool) (y : Vector) → AreNew n before →
    IsFirstBasis n before gs ms → length y ≡ n → Vanish before y → Vanish gs y → (IsZero y → ⊥) →
    IsAlone n (before ++ gs) y ↔ (length (taken before gs ms) + 1 ≡ n)
alone_by_first_basis n before gs ms y a f l b v nz = by (eliminate_over n before gs a)
  where
    by : Eliminated n before gs → IsAlone n (before ++ gs) y ↔ (length (taken before gs ms) + 1 ≡ n)
    by e =
        subst (λ (ks : List Bool). IsAlone n (before ++ gs) y ↔ (length (taken before gs ks) + 1 ≡ n))
        (first_unique n before gs e.marks ms e.first f) (alone_by_elimination n before gs e y l b v nz)
