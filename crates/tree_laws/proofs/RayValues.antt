-- The values of labels along a column of a cobasis, and that what is shown along it is extreme.
use Rattle.std.proofs.Common.{◌≡◌, ◌≢◌, ⊎_elim, ℕ, List, ℤ, pos, ◌*ℤ◌, neg_ℤ, sym, subst, ◌∙◌}
use Rattle.std.specs.Prelude.{◌<ℤ◌, ◌≤ℤ◌}
use Rattle.std.specs.List.{Contains}
use Rattle.std.proofs.lemmas.Bool.{cases_eq}
use Rattle.poly_num.specs.Vectors.{Vector, ◌·◌, scale, IsZero}
use Rattle.poly_num.proofs.Ring.{mul_comm}
use Rattle.poly_num.proofs.Order.{zero_factor, positive_nonzero, positive_product, positive_factor}
use Rattle.poly_num.proofs.VectorLemmas.{dot-zero}
use Rattle.poly_model.specs.Spaces.{Space, IsDirection}
use Rattle.poly_model.specs.Dictionaries.{Table}
use Rattle.poly_model.specs.LexOrder.{rows_in}
use Rattle.poly_model.specs.Tree.{IsRowDictionary, ShowsRay, IsAlongColumn, IsExtremeIn}
use Rattle.linear_laws.proofs.Combinations.{combination, dot-combination}
use Rattle.linear_laws.proofs.Nearest.{nonnegative_product, nonnegative_factor}
use Rattle.linear_laws.proofs.Proportions.{multiples_from_values}
use Rattle.linear_laws.proofs.Signs.{nonnegative_zero, nonnegative_positive}
use Rattle.dictionary_laws.proofs.Members.{all_from, contains_or}
use Rattle.dictionary_laws.proofs.Directions.{direction_combination, times_zero, zero_times, zero_at}
use Rattle.dictionary_laws.proofs.Values.{value_along}
use Rattle.tree_laws.proofs.Numbers.{row_is_label, key_row}
use Rattle.tree_laws.proofs.PointValues.{meets, apart}

module _ (space : Space) (key : List ℕ) (t : Table) (d : IsRowDictionary space key t) (s : ℕ) (m : Contains key s)
    (y : Vector) (along : IsAlongColumn space key s y) where
  direction : IsDirection space y
  direction = record { inside = along.inside; level = along.level }

  -- the value of a row is its entry, up to the value of s
  pub along_value : (i : ℕ) → Contains (rows_in space.labels) i →
      t.denominator *ℤ (space.form i · y) ≡ t.entry i s *ℤ (space.form s · y)
  along_value i l =
      value_along space key d.dictionary.cobasis t d.dictionary.writes i (row_is_label space i l) s m y direction
      along.nothing

  turned : (i : ℕ) → Contains (rows_in space.labels) i →
      (space.form s · y) *ℤ t.entry i s ≡ t.denominator *ℤ (space.form i · y)
  turned i l = mul_comm (space.form s · y) (t.entry i s) ∙ sym (along_value i l)

  pub zero_entry : (i : ℕ) → Contains (rows_in space.labels) i → space.form i · y ≡ pos 0 → t.entry i s ≡ pos 0
  zero_entry i l e =
      zero_factor (space.form s · y) (t.entry i s)
      (turned i l ∙ times_zero t.denominator (space.form i · y) e)
      (positive_nonzero (space.form s · y) along.here)

  pub zero_along : (i : ℕ) → Contains (rows_in space.labels) i → t.entry i s ≡ pos 0 → space.form i · y ≡ pos 0
  zero_along i l e =
      zero_factor t.denominator (space.form i · y)
      (along_value i l ∙ zero_times (t.entry i s) (space.form s · y) e)
      (positive_nonzero t.denominator d.dictionary.writes.positive)

  pub nonnegative_entry : (i : ℕ) → Contains (rows_in space.labels) i → pos 0 ≤ℤ (space.form i · y) →
      pos 0 ≤ℤ t.entry i s
  nonnegative_entry i l g =
      nonnegative_factor (space.form s · y) (t.entry i s) along.here
      (subst (λ (v : ℤ). pos 0 ≤ℤ v) (sym (turned i l))
      (nonnegative_product t.denominator (space.form i · y) d.dictionary.writes.positive g))

  pub nonnegative_along : (i : ℕ) → Contains (rows_in space.labels) i → pos 0 ≤ℤ t.entry i s →
      pos 0 ≤ℤ (space.form i · y)
  nonnegative_along i l g =
      nonnegative_factor t.denominator (space.form i · y) d.dictionary.writes.positive
      (subst (λ (v : ℤ). pos 0 ≤ℤ v) (turned i l)
      (nonnegative_product (space.form s · y) (t.entry i s) along.here g))

  pub positive_entry : (i : ℕ) → Contains (rows_in space.labels) i → pos 0 <ℤ (space.form i · y) → pos 0 <ℤ t.entry i s
  positive_entry i l g =
      positive_factor (space.form s · y) (t.entry i s) along.here
      (subst (λ (v : ℤ). pos 0 <ℤ v) (sym (turned i l))
      (positive_product t.denominator (space.form i · y) d.dictionary.writes.positive g))

  -- the part of z that is 0 at s: no direction but 0 is 0 on the key
  column_part : (z : Vector) → IsDirection space z →
      ((c : ℕ) → Contains key c → c ≢ s → space.form c · z ≡ pos 0) →
      IsZero (combination (space.form s · y) z (neg_ℤ (space.form s · z)) y)
  column_part z dz h =
      d.dictionary.cobasis.enough (combination (space.form s · y) z (neg_ℤ (space.form s · z)) y)
      (direction_combination space (space.form s · y) z (neg_ℤ (space.form s · z)) y dz direction)
      (all_from
      (λ c. space.form c · combination (space.form s · y) z (neg_ℤ (space.form s · z)) y ≡ pos 0) key
      (λ c i. ⊎_elim
      (λ (e : c ≡ s). subst
      (λ k. space.form k · combination (space.form s · y) z (neg_ℤ (space.form s · z)) y ≡ pos 0) (sym e)
      (meets (space.form s · y) (space.form s · z)
      (space.form s · combination (space.form s · y) z (neg_ℤ (space.form s · z)) y)
      (dot-combination (space.form s) (space.form s · y) z (neg_ℤ (space.form s · z)) y)))
      (λ (n : c ≡ s → ⊥).
      zero_at (space.form c) (space.form s · y) z (neg_ℤ (space.form s · z)) y (h c i n) (along.nothing c i n))
      (cases_eq c s)))

  -- so z is along y
  pub along_column : (z : Vector) → IsDirection space z →
      ((c : ℕ) → Contains key c → c ≢ s → space.form c · z ≡ pos 0) →
      scale (space.form s · y) z ≡ scale (space.form s · z) y
  along_column z dz h =
      multiples_from_values (space.form s · y) (space.form s · z) z y (dz.inside.width ∙ sym along.inside.width)
      (λ g. apart (space.form s · y) (space.form s · z) (g · z) (g · y)
      (sym (dot-combination g (space.form s · y) z (neg_ℤ (space.form s · z)) y)
      ∙ dot-zero g (combination (space.form s · y) z (neg_ℤ (space.form s · z)) y) (column_part z dz h)))

-- where no row outside the key is negative in the column, what is along it is extreme
pub ray_is_extreme : (space : Space) (root key : List ℕ) (t : Table) (s : ℕ) (y : Vector) →
    IsRowDictionary space key t → ShowsRay space.labels root key t s → IsAlongColumn space key s y → IsExtremeIn space y
ray_is_extreme space root key t s y d shown along = record {
  primitive = along.primitive;
  inside = along.inside;
  finite = nonnegative_zero (space.infinity · y) along.level;
  rows = λ i l. ⊎_elim
      (λ (c : Contains key i). ⊎_elim
      (λ (e : i ≡ s). subst (λ k. pos 0 ≤ℤ (space.form k · y)) (sym e)
      (nonnegative_positive (space.form s · y) along.here))
      (λ (n : i ≡ s → ⊥). nonnegative_zero (space.form i · y) (along.nothing i c n))
      (cases_eq i s))
      (λ (o : Contains key i → ⊥).
      nonnegative_along space key t d s shown.column y along i l
      (shown.none i (record { row = l; outside = o })))
      (contains_or key i);
  alone = λ z inside level h. (
    space.form s · y,
    space.form s · z,
    positive_nonzero (space.form s · y) along.here,
    along_column space key t d s shown.column y along z (record { inside = inside; level = level along.level })
        (λ c m n. h c (key_row space key t d c m) (along.nothing c m n)),
  );
}
