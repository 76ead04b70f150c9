-- The exchanged numbers write the labels in the new key: row r is solved for s and put into each row.
use Rattle.std.proofs.Common.{◌≡◌, ◌≢◌, ℕ, zero, suc, cond, List, ℤ, pos, negsuc, ◌+ℤ◌, ◌-ℤ◌, ◌*ℤ◌, neg_ℤ, refl, sym, ap, subst, ◌∙◌, ⊎_elim, arith}
use Rattle.std.specs.Prelude.{◌<ℤ◌, ◌==◌, if◌then◌else◌}
use Rattle.std.specs.List.{Contains}
use Rattle.std.proofs.lemmas.Int.{ints}
use Rattle.std.proofs.lemmas.Bool.{eq-eqb, ne_eqb}
use Rattle.poly_num.specs.Vectors.{Vector, ◌·◌}
use Rattle.poly_num.specs.Fractions.{turned_by}
use Rattle.poly_num.proofs.Ring.{expand, lin}
use Rattle.poly_num.proofs.Order.{positive_product}
use Rattle.poly_model.specs.Spaces.{Space, IsInside}
use Rattle.poly_model.specs.Dictionaries.{Table, IsCobasis, Writes, sum_over}
use Rattle.dictionary_laws.specs.Keys.{HaveSameLabels, Exchanges}
use Rattle.dictionary_laws.specs.Exchange.{CanExchange, exchanged}
use Rattle.dictionary_laws.proofs.Members.{without, without_only, without_kept, distinct_without, sum_same, sum-add, sum-scale, sum_without, sum_members}
use Rattle.dictionary_laws.proofs.Duals.{distinct}
use Rattle.dictionary_laws.proofs.Values.{terms}

-- turning signs is a factor
record Turn (e : ℤ) : Type 0 where
  factor : ℤ
  is : (x : ℤ) → turned_by e x ≡ factor *ℤ x

turn : (e : ℤ) → Turn e
turn (pos n) = record { factor = pos 1; is = λ x. omega (arith, ints) }
turn (negsuc n) = record { factor = negsuc 0; is = λ x. omega (arith, ints) }

turned_positive : (d e : ℤ) → pos 0 <ℤ d → e ≢ pos 0 → pos 0 <ℤ turned_by e (d *ℤ e)
turned_positive d (pos zero) h n = absurd (n refl)
turned_positive d (pos (suc m)) h n = positive_product d (pos (suc m)) h (omega (arith, ints))
turned_positive d (negsuc m) h n =
    let k = positive_product d (pos (suc m)) h (omega (arith, ints)) in
    omega (arith, ints)

-- row i with row r solved for s put into it; o is the sign
put_in : (o d e a b c y v w x p q : ℤ) → d *ℤ v ≡ a *ℤ y +ℤ (c *ℤ x +ℤ p) →
    d *ℤ w ≡ b *ℤ y +ℤ (e *ℤ x +ℤ q) →
    (o *ℤ (d *ℤ e)) *ℤ v ≡ (o *ℤ (a *ℤ e -ℤ c *ℤ b)) *ℤ y +ℤ
    ((o *ℤ (c *ℤ d)) *ℤ w +ℤ ((o *ℤ e) *ℤ p +ℤ neg_ℤ (o *ℤ c) *ℤ q))
put_in o d e a b c y v w x p q h k =
    let f = simp expand at (ap (λ (z : ℤ). (o *ℤ e) *ℤ z) h) in
    let g = simp expand at (ap (λ (z : ℤ). (o *ℤ c) *ℤ z) k) in
    simp expand (omega (arith, lin))

term : (o e a b c v : ℤ) →
    (o *ℤ (a *ℤ e -ℤ c *ℤ b)) *ℤ v ≡ (o *ℤ e) *ℤ (a *ℤ v) +ℤ neg_ℤ (o *ℤ c) *ℤ (b *ℤ v)
term o e a b c v = simp expand (omega (arith, lin))

chosen : (j k : ℕ) (u v : ℤ) → j ≡ k → (if j == k then u else v) ≡ u
chosen j k u v e = ap (λ b. cond b u v) (eq-eqb j k e)

not_chosen : (j k : ℕ) (u v : ℤ) → j ≢ k → (if j == k then u else v) ≡ v
not_chosen j k u v n = ap (λ b. cond b u v) (ne_eqb j k n)

both : {a b c d : ℤ} → a ≡ b → c ≡ d → a +ℤ c ≡ b +ℤ d
both e f = omega (arith, lin)

module _ (space : Space) (key new : List ℕ) (t : Table) (r s : ℕ) (cobasis : IsCobasis space key)
    (w : Writes space key t) (can : CanExchange space key t r s) (x : Exchanges key new r s) where
  -- the labels that stay
  abbrev rest : List ℕ
  rest = without s key

  not_r : (k : ℕ) → Contains rest k → k ≢ r
  not_r k c e = can.outside (subst (λ (j : ℕ). Contains key j) e (without_only s key k c).0)

  rest_is_new : HaveSameLabels (without r new) rest
  rest_is_new = record {
    there = λ k c.
        let h = without_only r new k c in
        ⊎_elim
        (λ (e : k ≡ r). absurd (h.1 e))
        (λ (g : Contains key k × (k ≢ s)). without_kept s key k g.0 g.1)
        (x.only k h.0);
    back = λ k c. let h = without_only s key k c in without_kept r new k (x.kept k h.0 h.1) (not_r k c);
  }

  old_sum : (f : ℕ → ℤ) → sum_over key f ≡ f s +ℤ sum_over rest f
  old_sum f = sum_without s key f (distinct space key cobasis) can.inside

  new_sum : (f : ℕ → ℤ) → sum_over new f ≡ f r +ℤ sum_over rest f
  new_sum f =
      sum_without r new f x.distinct x.entering
      ∙ ap (λ (z : ℤ). f r +ℤ z)
      (sum_members (without r new) rest f (distinct_without r new x.distinct)
      (distinct_without s key (distinct space key cobasis)) rest_is_new)

  -- the exchanged entries, with the sign as a factor
  abbrev e : ℤ
  e = t.entry r s

  sign : ℤ
  sign = Turn.factor (turn e)

  turned : (z : ℤ) → turned_by e z ≡ sign *ℤ z
  unfolding sign
  turned z = Turn.is (turn e) z

  entering_entry : (i : ℕ) → Table.entry (exchanged t r s) i r ≡ sign *ℤ (t.entry i s *ℤ t.denominator)
  entering_entry i =
      ap (λ (z : ℤ). turned_by e z)
      (chosen r r (t.entry i s *ℤ t.denominator) (t.entry i r *ℤ e -ℤ t.entry i s *ℤ t.entry r r) refl)
      ∙ turned (t.entry i s *ℤ t.denominator)

  staying_entry : (i k : ℕ) → k ≢ r →
      Table.entry (exchanged t r s) i k ≡ sign *ℤ (t.entry i k *ℤ e -ℤ t.entry i s *ℤ t.entry r k)
  staying_entry i k n =
      ap (λ (z : ℤ). turned_by e z)
      (not_chosen k r (t.entry i s *ℤ t.denominator) (t.entry i k *ℤ e -ℤ t.entry i s *ℤ t.entry r k) n)
      ∙ turned (t.entry i k *ℤ e -ℤ t.entry i s *ℤ t.entry r k)

  module _ (i : ℕ) (y : Vector) where
    abbrev value : ℕ → ℤ
    value k = space.form k · y

    -- the terms of row i, and those of row r, each with its factor
    abbrev own_part : ℕ → ℤ
    own_part k = (sign *ℤ e) *ℤ terms space t i y k

    abbrev row_part : ℕ → ℤ
    row_part k = neg_ℤ (sign *ℤ t.entry i s) *ℤ terms space t r y k

    abbrev staying_part : ℤ
    staying_part =
        (sign *ℤ e) *ℤ sum_over rest (terms space t i y)
        +ℤ neg_ℤ (sign *ℤ t.entry i s) *ℤ sum_over rest (terms space t r y)

    staying_term : (k : ℕ) → Contains rest k →
        terms space (exchanged t r s) i y k ≡ own_part k +ℤ row_part k
    staying_term k c =
        ap (λ (z : ℤ). z *ℤ value k) (staying_entry i k (not_r k c))
        ∙ term sign e (t.entry i k) (t.entry r k) (t.entry i s) (value k)

    staying_sum : sum_over rest (terms space (exchanged t r s) i y) ≡ staying_part
    staying_sum =
        sum_same rest (terms space (exchanged t r s) i y) (λ k. own_part k +ℤ row_part k) staying_term
        ∙ sum-add rest own_part row_part
        ∙ both
        (sum-scale (sign *ℤ e) rest (terms space t i y))
        (sum-scale (neg_ℤ (sign *ℤ t.entry i s)) rest (terms space t r y))

    exchanged_sum : sum_over new (terms space (exchanged t r s) i y)
        ≡ (sign *ℤ (t.entry i s *ℤ t.denominator)) *ℤ value r +ℤ staying_part
    exchanged_sum =
        new_sum (terms space (exchanged t r s) i y)
        ∙ both (ap (λ (z : ℤ). z *ℤ value r) (entering_entry i)) staying_sum

    split : Contains space.labels i → IsInside space y →
        t.denominator *ℤ value i
        ≡ t.constant i *ℤ (space.infinity · y) +ℤ
        (t.entry i s *ℤ value s +ℤ sum_over rest (terms space t i y))
    split l h =
        w.values i l y h
        ∙ ap (λ (z : ℤ). t.constant i *ℤ (space.infinity · y) +ℤ z) (old_sum (terms space t i y))

  exchanged_value : (i : ℕ) → Contains space.labels i → (y : Vector) → IsInside space y →
      Table.denominator (exchanged t r s) *ℤ (space.form i · y)
      ≡ Table.constant (exchanged t r s) i *ℤ (space.infinity · y)
      +ℤ sum_over new (terms space (exchanged t r s) i y)
  exchanged_value i l y h =
      ap (λ (z : ℤ). z *ℤ (space.form i · y)) (turned (t.denominator *ℤ e))
      ∙ put_in sign t.denominator e (t.constant i) (t.constant r) (t.entry i s) (space.infinity · y)
      (space.form i · y) (space.form r · y) (space.form s · y)
      (sum_over rest (terms space t i y)) (sum_over rest (terms space t r y))
      (split i y l h) (split r y can.label h)
      ∙ sym (both
      (ap (λ (z : ℤ). z *ℤ (space.infinity · y))
      (turned (t.constant i *ℤ e -ℤ t.entry i s *ℤ t.constant r)))
      (exchanged_sum i y))

  pub exchanged_writes : Writes space new (exchanged t r s)
  exchanged_writes = record {
    positive = turned_positive t.denominator e w.positive can.nonzero;
    values = exchanged_value;
  }
