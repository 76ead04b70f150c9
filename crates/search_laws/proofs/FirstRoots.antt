-- The exchange of t with a row of least constant, which is negative: at the new cobasis no constant is negative.
use Rattle.std.proofs.Common.{◌≡◌, ◌≢◌, ⊎_elim, ℕ, cond, List, [], ◌∷◌, ℤ, pos, ◌+ℤ◌, ◌-ℤ◌, ◌*ℤ◌, sym, ap, subst, ◌∙◌, arith}
use Rattle.std.specs.Prelude.{◌<ℤ◌, ◌≤ℤ◌}
use Rattle.std.specs.List.{Contains}
use Rattle.poly_num.specs.Vectors.{Vector, ◌·◌}
use Rattle.poly_num.proofs.Ring.{expand, lin, mul_zero, zero_mul, mul_one, add_zero}
use Rattle.poly_num.proofs.Order.{positive_nonzero}
use Rattle.poly_model.specs.Spaces.{Space, lift_of, lifted}
use Rattle.poly_model.specs.Dictionaries.{Table}
use Rattle.poly_model.specs.LexOrder.{rows_in}
use Rattle.poly_model.specs.Tree.{IsRowDictionary, IsRowOutside, IsFeasibleRoot, exchanged_key}
use Rattle.linear_laws.proofs.Members.{Contains-first, Contains-later}
use Rattle.linear_laws.proofs.Nearest.{nonnegative_product, nonnegative_factor}
use Rattle.linear_laws.proofs.Signs.{nonnegative_zero}
use Rattle.dictionary_laws.specs.Keys.{Exchanges}
use Rattle.dictionary_laws.proofs.Members.{contains_or, contains_cases}
use Rattle.poly_model.specs.PhaseOne.{IsWorst}
use Rattle.dictionary_laws.specs.WithT.{with_t}
use Rattle.search_laws.specs.PhaseOne.{HasNoRowZero, GivesRoot}
use Rattle.tree_laws.proofs.OrderLemmas.{row_only}
use Rattle.tree_laws.proofs.ExchangedKeys.{exchanges}
use Rattle.tree_laws.proofs.Exchange.{exchanged_dictionary}
use Rattle.tree_laws.proofs.PointValues.{IsKeyPoint, row_at_point}
use Rattle.search_laws.proofs.LiftedForms.{first, not_zero, inside_rest, same_infinity, value_of_t, value_inside, value_outside, lift_outside}
use Rattle.search_laws.proofs.StartWithT.{not_t, start_not_t, dictionary_with_t}
use Rattle.search_laws.proofs.KeyPoints.{key_point, root_from_point}

-- d v = c l for row r and for another; x is the value of t, and r is 0
no_less : (d l x v c w b : ℤ) → pos 0 <ℤ d → pos 0 <ℤ l → x +ℤ v ≡ pos 0 → d *ℤ v ≡ c *ℤ l → d *ℤ w ≡ b *ℤ l →
    c ≤ℤ b → pos 0 ≤ℤ (x +ℤ w)
no_less d l x v c w b p q z e f g =
    moved x v w z
    (nonnegative_factor d (w -ℤ v) p
    (subst (λ (n : ℤ). pos 0 ≤ℤ n) (ratio d l v c w b e f) (nonnegative_product l (b -ℤ c) q (difference b c g))))
  where
    difference : (b c : ℤ) → c ≤ℤ b → pos 0 ≤ℤ (b -ℤ c)
    difference b c g = omega (arith, lin)

    ratio : (d l v c w b : ℤ) → d *ℤ v ≡ c *ℤ l → d *ℤ w ≡ b *ℤ l → l *ℤ (b -ℤ c) ≡ d *ℤ (w -ℤ v)
    ratio d l v c w b e f = let g = simp expand at e in let h = simp expand at f in simp expand (omega (arith, lin))

    moved : (x v w : ℤ) → x +ℤ v ≡ pos 0 → pos 0 ≤ℤ (w -ℤ v) → pos 0 ≤ℤ (x +ℤ w)
    moved x v w z g = omega (arith, lin)

t_above : (d l x v c : ℤ) → pos 0 <ℤ d → pos 0 <ℤ l → x +ℤ v ≡ pos 0 → d *ℤ v ≡ c *ℤ l → c <ℤ pos 0 → pos 0 ≤ℤ x
t_above d l x v c p q z e g =
    subst (λ (n : ℤ). pos 0 ≤ℤ n) (add_zero x)
    (no_less d l x v c (pos 0) (pos 0) p q z e (mul_zero d ∙ sym (zero_mul l)) (weak c g))
  where
    weak : (c : ℤ) → c <ℤ pos 0 → c ≤ℤ pos 0
    weak c g = omega (arith, lin)

module _ (space : Space) (start : List ℕ) (t : Table) (none : HasNoRowZero space) (d : IsRowDictionary space start t)
    (r : ℕ) (w : IsWorst space start t r) where
  abbrev new : List ℕ
  new = exchanged_key (0 ∷ start) 0 r

  row_not_t : (i : ℕ) → Contains (rows_in space.labels) i → i ≢ 0
  row_not_t i c = not_t space start none i (row_only space i c).0

  pub comes_in : IsRowOutside (first space start).labels (0 ∷ start) r
  comes_in = record {
    row = Contains-later r 0 (rows_in space.labels) w.row.row;
    outside = λ c. ⊎_elim (row_not_t r w.row.row) w.row.outside (contains_cases 0 start r c);
  }

  keys : Exchanges (0 ∷ start) new r 0
  keys = exchanges (0 ∷ start) 0 r (IsRowDictionary.ascending (dictionary_with_t space start none t d)) comes_in.outside

  pub t_goes : (with_t start t).entry r 0 ≢ pos 0
  t_goes e =
      positive_nonzero t.denominator d.dictionary.writes.positive
      (one t.denominator (lift_of start r) (lift_outside space start r (row_only space r w.row.row).1 w.row.outside)
      (sym (ap (λ b. cond b t.denominator (t.denominator *ℤ lift_of start r)) (not_zero r (row_not_t r w.row.row)))
      ∙ e))
    where
      one : (d l : ℤ) → l ≡ pos 1 → d *ℤ l ≡ pos 0 → d ≡ pos 0
      one d l e f = sym (mul_one d) ∙ ap (λ (x : ℤ). d *ℤ x) (sym e) ∙ f

  module _ (x : ℤ) (z : Vector) (at : IsKeyPoint (first space start) new (x ∷ z)) where
    level : pos 0 <ℤ (space.infinity · z)
    level = subst (λ (n : ℤ). pos 0 <ℤ n) (same_infinity space start x z) at.finite

    start_zero : (k : ℕ) → Contains start k → space.form k · z ≡ pos 0
    start_zero k c =
        let n = start_not_t space start none t d k c in
        sym (value_inside space start k n c x z) ∙ at.nothing k (keys.kept k (Contains-later k 0 start c) n)

    constant_is : (i : ℕ) → Contains (rows_in space.labels) i →
        t.denominator *ℤ (space.form i · z) ≡ t.constant i *ℤ (space.infinity · z)
    constant_is i l = row_at_point space start t d i l z (inside_rest space start x z at.inside) start_zero

    r_zero : x +ℤ space.form r · z ≡ pos 0
    r_zero =
        sym (value_outside space start r (row_not_t r w.row.row) (row_only space r w.row.row).1 w.row.outside x z)
        ∙ at.nothing r keys.entering

    row_value : (i : ℕ) → Contains (rows_in space.labels) i → pos 0 ≤ℤ ((first space start).form i · (x ∷ z))
    row_value i l =
        ⊎_elim
        (λ (c : Contains start i). nonnegative_zero ((first space start).form i · (x ∷ z))
        (value_inside space start i (row_not_t i l) c x z ∙ start_zero i c))
        (λ (o : Contains start i → ⊥).
        subst (λ (n : ℤ). pos 0 ≤ℤ n)
        (sym (value_outside space start i (row_not_t i l) (row_only space i l).1 o x z))
        (no_less t.denominator (space.infinity · z) x (space.form r · z) (t.constant r) (space.form i · z)
        (t.constant i) d.dictionary.writes.positive level r_zero (constant_is r w.row.row) (constant_is i l)
        (w.least i (record { row = l; outside = o }))))
        (contains_or start i)

    t_value : pos 0 ≤ℤ ((first space start).form 0 · (x ∷ z))
    t_value =
        subst (λ (n : ℤ). pos 0 ≤ℤ n) (sym (value_of_t space start x z))
        (t_above t.denominator (space.infinity · z) x (space.form r · z) (t.constant r) d.dictionary.writes.positive
        level r_zero (constant_is r w.row.row) w.negative)

    all_values : (i : ℕ) → Contains (0 ∷ rows_in space.labels) i → pos 0 ≤ℤ ((first space start).form i · (x ∷ z))
    all_values i c =
        ⊎_elim
        (λ (e : i ≡ 0). subst (λ j. pos 0 ≤ℤ ((first space start).form j · (x ∷ z))) (sym e) t_value)
        (row_value i)
        (contains_cases 0 (rows_in space.labels) i c)

  pub first_root : GivesRoot (lifted space start) new
  first_root = record {
    some = exchanged_dictionary (first space start) (0 ∷ start) (with_t start t)
        (dictionary_with_t space start none t d) 0 r (Contains-first 0 start) comes_in t_goes;
    feasible = λ u e. by u e (key_point (first space start) new u e);
  }
    where
      by : (u : Table) → (e : IsRowDictionary (first space start) new u) →
          (y : Vector) × IsKeyPoint (first space start) new y → IsFeasibleRoot (first space start) new u
      by u e ([], at) = let w = at.inside.width in absurd (omega (arith, w))
      by u e (x ∷ z, at) = root_from_point (first space start) new u e (x ∷ z) at (all_values x z at)
