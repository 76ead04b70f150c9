-- Where one label of a cobasis can be exchanged for another, the new labels are a cobasis; and only
-- there.
use Rattle.std.proofs.Common.{◌≡◌, ◌≢◌, ℕ, List, [], ℤ, pos, ◌*ℤ◌, neg_ℤ, sym, ap, subst, ◌∙◌, ⊎_elim}
use Rattle.std.specs.Prelude.{◌<ℤ◌}
use Rattle.std.specs.List.{Contains}
use Rattle.std.proofs.lemmas.Bool.{cases_eq}
use Rattle.std.proofs.lemmas.List.Elements.{All-from_recursion}
use Rattle.poly_num.specs.Vectors.{Vector, ◌·◌}
use Rattle.poly_num.proofs.Ring.{zero_mul}
use Rattle.poly_num.proofs.Order.{zero_factor, mul_nonzero, positive_nonzero}
use Rattle.poly_model.specs.Spaces.{Space, IsDirection}
use Rattle.poly_model.specs.Dictionaries.{Table, IsCobasis, Writes}
use Rattle.dictionary_laws.specs.Keys.{Exchanges}
use Rattle.dictionary_laws.specs.Exchange.{CanExchange}
use Rattle.linear_laws.proofs.Members.{Contains-nil, all_at}
use Rattle.dictionary_laws.proofs.Members.{all_from}
use Rattle.linear_laws.proofs.Combinations.{combination, dot-combination, cancels}
use Rattle.dictionary_laws.proofs.Directions.{times_zero, cleared_value, zero_at, direction_combination}
use Rattle.dictionary_laws.proofs.Duals.{Dual, dual_of, independent}
use Rattle.dictionary_laws.proofs.Values.{is_label, value_along}

moved_nonzero : (d x e v : ℤ) → d *ℤ x ≡ e *ℤ v → e ≢ pos 0 → v ≢ pos 0 → x ≢ pos 0
moved_nonzero d x e v h m n z = mul_nonzero e v m n (sym h ∙ times_zero d x z)

moved_zero : (d x e v : ℤ) → d *ℤ x ≡ e *ℤ v → e ≢ pos 0 → x ≡ pos 0 → v ≡ pos 0
moved_zero d x e v h n z = zero_factor e v (sym h ∙ times_zero d x z) n

module _ (space : Space) (key new : List ℕ) (t : Table) (r s : ℕ) (cobasis : IsCobasis space key)
    (w : Writes space key t)
    (can : CanExchange space key t r s) (x : Exchanges key new r s) where
  leaving : Dual space [] key s
  leaving = dual_of space key cobasis s can.inside

  -- a direction at which all labels of the key but s are 0
  row_value : (z : Vector) → IsDirection space z →
      ((j : ℕ) → Contains key j → j ≢ s → space.form j · z ≡ pos 0) →
      t.denominator *ℤ (space.form r · z) ≡ t.entry r s *ℤ (space.form s · z)
  row_value z d others = value_along space key cobasis t w r can.label s can.inside z d others

  entering_nonzero : space.form r · leaving.vector ≢ pos 0
  entering_nonzero =
      moved_nonzero t.denominator (space.form r · leaving.vector) (t.entry r s)
      (space.form s · leaving.vector)
      (row_value leaving.vector leaving.direction leaving.elsewhere) can.nonzero leaving.here

  stays : (j : ℕ) → Contains new j → j ≢ r → Contains key j × (j ≢ s)
  stays j c n = ⊎_elim (λ (e : j ≡ r). absurd (n e)) (λ (h : Contains key j × (j ≢ s)). h) (x.only j c)

  entering_dual : Dual space [] new r
  entering_dual = record {
    vector = leaving.vector;
    direction = leaving.direction;
    before = λ i c. absurd (Contains-nil i c);
    here = entering_nonzero;
    elsewhere = λ j c n. let h = stays j c n in leaving.elsewhere j h.0 h.1;
  }

  staying_dual : (k : ℕ) → Contains new k → k ≢ r → Dual space [] key k → Dual space [] new k
  staying_dual k c n d = record {
    vector = combination v d.vector (neg_ℤ a) leaving.vector;
    direction = direction_combination space v d.vector
        (neg_ℤ a) leaving.vector d.direction leaving.direction;
    before = λ i h. absurd (Contains-nil i h);
    here = λ e. mul_nonzero v (space.form k · d.vector) entering_nonzero d.here (sym own ∙ e);
    elsewhere = λ j i m. ⊎_elim
        (λ (e : j ≡ r). subst
        (λ (l : ℕ). space.form l · combination v d.vector (neg_ℤ a) leaving.vector ≡ pos 0) (sym e)
        (dot-combination (space.form r) v d.vector (neg_ℤ a) leaving.vector ∙ cancels v a))
        (λ (o : j ≡ r → ⊥). let g = stays j i o in
        zero_at (space.form j) v d.vector (neg_ℤ a) leaving.vector (d.elsewhere j g.0 m)
        (leaving.elsewhere j g.0 g.1))
        (cases_eq j r);
  }
    where
      v : ℤ
      v = space.form r · leaving.vector

      a : ℤ
      a = space.form r · d.vector

      own : space.form k · combination v d.vector (neg_ℤ a) leaving.vector ≡ v *ℤ (space.form k · d.vector)
      own = dot-combination (space.form k) v d.vector (neg_ℤ a) leaving.vector
          ∙ cleared_value v a (space.form k · d.vector) (space.form k · leaving.vector)
          (let h = stays k c n in leaving.elsewhere k h.0 h.1)

  new_dual : (k : ℕ) → Contains new k → Dual space [] new k
  new_dual k c =
      ⊎_elim
      (λ (e : k ≡ r). subst (λ (j : ℕ). Dual space [] new j) (sym e) entering_dual)
      (λ (n : k ≡ r → ⊥). staying_dual k c n (dual_of space key cobasis k (stays k c n).0))
      (cases_eq k r)

  new_label : (k : ℕ) → Contains new k → Contains space.labels k
  new_label k c =
      ⊎_elim
      (λ (e : k ≡ r). subst (λ (j : ℕ). Contains space.labels j) (sym e) can.label)
      (λ (h : Contains key k × (k ≢ s)). is_label space key cobasis k h.0)
      (x.only k c)

  -- a direction at which the new labels are 0
  old_zero : (z : Vector) → IsDirection space z →
      ((k : ℕ) → Contains new k → space.form k · z ≡ pos 0) →
      (k : ℕ) → Contains key k → space.form k · z ≡ pos 0
  old_zero z d v k c =
      ⊎_elim
      (λ (e : k ≡ s). subst (λ (j : ℕ). space.form j · z ≡ pos 0) (sym e)
      (moved_zero t.denominator (space.form r · z) (t.entry r s) (space.form s · z)
      (row_value z d (λ j i n. v j (x.kept j i n))) can.nonzero (v r x.entering)))
      (λ (n : k ≡ s → ⊥). v k (x.kept k c n))
      (cases_eq k s)

  pub exchanged_cobasis : IsCobasis space new
  exchanged_cobasis = record {
    labels = All-from_recursion (Contains space.labels) new
        (all_from (Contains space.labels) new new_label);
    independent = independent space new x.distinct new_dual;
    enough = λ z d v. cobasis.enough z d
        (all_from (λ k. space.form k · z ≡ pos 0) key
        (old_zero z d (all_at (λ k. space.form k · z ≡ pos 0) new v)));
  }

-- where the new labels are a cobasis, the entry is not 0
module _ (space : Space) (key new : List ℕ) (t : Table) (r s : ℕ) (cobasis : IsCobasis space key)
    (w : Writes space key t) where
  pub nonzero_where_cobasis : Contains space.labels r → (Contains key r → ⊥) → Contains key s →
      Exchanges key new r s →
      IsCobasis space new → t.entry r s ≢ pos 0
  nonzero_where_cobasis label outside inside x other e =
      let d = dual_of space new other r x.entering in
      d.here (moved_back t.denominator (space.form r · d.vector) (t.entry r s)
      (space.form s · d.vector) w.positive
      (value_along space key cobasis t w r label s inside d.vector d.direction
      (λ j i n. d.elsewhere j (x.kept j i n) (λ f. outside (subst (λ (k : ℕ). Contains key k) f i)))) e)
    where
      moved_back : (d x e v : ℤ) → pos 0 <ℤ d → d *ℤ x ≡ e *ℤ v → e ≡ pos 0 → x ≡ pos 0
      moved_back d x e v l h z =
          zero_factor d x (h ∙ ap (λ (a : ℤ). a *ℤ v) z ∙ zero_mul v) (positive_nonzero d l)
