-- While rows enter the cobasis, each free column stays in it, and is the least column of no row.
use Rattle.std.proofs.Common.{◌≡◌, ◌≢◌, ⊎_elim, ℕ, ◌<◌, ◌≤◌, List, pos, ◌*ℤ◌, sym, ap, subst, ◌∙◌, arith}
use Rattle.std.specs.List.{Contains}
use Rattle.std.proofs.lemmas.Bool.{cases_lt}
use Rattle.poly_num.specs.Vectors.{◌·◌}
use Rattle.poly_num.proofs.Order.{zero_factor, mul_nonzero, positive_nonzero}
use Rattle.poly_model.specs.Systems.{Row, Polyhedron, cone_of}
use Rattle.poly_model.specs.Cones.{at}
use Rattle.poly_model.specs.FreeColumns.{IsFree}
use Rattle.poly_model.specs.Spaces.{label_form}
use Rattle.poly_model.specs.Labels.{coordinates_from, IsRow, IsCoordinate, coordinate_label, coordinate_index}
use Rattle.poly_model.specs.Dictionaries.{Table}
use Rattle.dictionary_laws.proofs.Members.{contains_or, sum_zero, sum_single}
use Rattle.dictionary_laws.proofs.Directions.{times_zero, zero_times}
use Rattle.dictionary_laws.proofs.Duals.{distinct}
use Rattle.dictionary.specs.Views.{Dictionary, table_of}
use Rattle.linearity.specs.Columns.{IsLeastColumn}
use Rattle.linearity.specs.Elimination.{IsDictionaryOf}
use Rattle.linearity.proofs.ConeLabels.{HasNoFirst, IsLevel}
use Rattle.linearity.proofs.RowValues.{row_form, coordinate_value, row_is_tight, level_from_tight}
use Rattle.linearity.proofs.ConeReadings.{ReadsCone, cone_readings}
use Rattle.linearity.proofs.FreeVectors.{EndsAt, ends_at_free}

module _ (p : Polyhedron) (d : Dictionary) (is : IsDictionaryOf p d) where
  abbrev reads : ReadsCone p d
  reads = cone_readings p d is

  abbrev rows : List Row
  rows = (cone_of p).rows

  module _ (j : ℕ) (f : IsFree (cone_of p) j) (w : EndsAt (cone_of p) j) where
    level : IsLevel d.labels w.vector
    level = let l = f.within in level_from_tight p d.labels reads.labels (omega arith) w.vector w.tight

    row_value : (i : ℕ) → Contains d.labels i → IsRow i → label_form rows i · w.vector ≡ pos 0
    row_value i l few =
        let r = reads.labels.rows_only i l few in
        ap (λ g. g · w.vector) (row_form p i few) ∙ row_is_tight p w.vector w.tight i r.0 r.1

    value_beyond : (k : ℕ) → coordinate_label j < k → label_form rows k · w.vector ≡ pos 0
    value_beyond k l =
        let e : k ≡ coordinate_label (coordinate_index k) = omega arith in
        ap (λ t. label_form rows t · w.vector) e ∙ coordinate_value p (coordinate_index k) w.vector
        ∙ w.beyond (coordinate_index k) (omega arith)

    -- the terms of a label that is 0 at the coordinates before j: only that of j can be other than 0
    term : (i : ℕ) →
        ((k : ℕ) → Contains d.key k → IsCoordinate k → k < coordinate_label j → Table.entry (table_of d) i k ≡ pos 0) →
        (k : ℕ) → Contains d.key k → k ≢ coordinate_label j →
        Table.entry (table_of d) i k *ℤ (label_form rows k · w.vector) ≡ pos 0
    term i earlier k c n =
        ⊎_elim
        (λ (l : IsRow k).
        times_zero (Table.entry (table_of d) i k) (label_form rows k · w.vector) (row_value k (reads.inside k c) l))
        (λ (h : IsCoordinate k).
        ⊎_elim
        (λ (l : k < coordinate_label j).
        zero_times (Table.entry (table_of d) i k) (label_form rows k · w.vector) (earlier k c h l))
        (λ (l : coordinate_label j ≤ k).
        times_zero (Table.entry (table_of d) i k) (label_form rows k · w.vector)
        (value_beyond k (omega (arith, n))))
        (cases_lt k (coordinate_label j)))
        (cases_lt k coordinates_from)

    -- outside the key, with no coordinate before it at which it is not 0, it would be 0 at the vector
    not_outside : ((k : ℕ) → Contains d.labels (coordinate_label j) → Contains d.key k → IsCoordinate k →
        k < coordinate_label j →
        Table.entry (table_of d) (coordinate_label j) k ≡ pos 0) → (Contains d.key (coordinate_label j) → ⊥) → ⊥
    not_outside earlier out =
        w.here (⊎_elim
        (λ (h : Contains d.labels (coordinate_label j)).
        sym (coordinate_value p j w.vector)
        ∙ zero_factor d.denominator (label_form rows (coordinate_label j) · w.vector)
        (reads.expands (coordinate_label j) h w.vector w.width level
        ∙ sum_zero d.key
        (λ k. Table.entry (table_of d) (coordinate_label j) k *ℤ (label_form rows k · w.vector))
        (λ k c. term (coordinate_label j) (λ i m. earlier i h m) k c (λ e. out (subst (Contains d.key) e c))))
        (positive_nonzero d.denominator reads.positive))
        (λ (h : (j ≡ 0) × HasNoFirst d.labels). ap (λ i. at i w.vector) h.0 ∙ level h.1)
        (reads.labels.each_coordinate j f.within))

    -- a row with its least column there would be other than 0 at the vector
    not_least : (i : ℕ) → Contains d.labels i → IsRow i → IsLeastColumn d i (coordinate_label j) → ⊥
    not_least i l few column =
        mul_nonzero (Table.entry (table_of d) i (coordinate_label j)) (label_form rows (coordinate_label j) · w.vector)
        column.nonzero (λ z. w.here (sym (coordinate_value p j w.vector) ∙ z))
        (sym (sum_single (coordinate_label j) d.key
        (λ k. Table.entry (table_of d) i k *ℤ (label_form rows k · w.vector))
        (distinct is.space d.key is.dictionary.dictionary.cobasis) column.inside
        (term i (λ k c h less. column.least k c h less)))
        ∙ sym (reads.expands i l w.vector w.width level)
        ∙ times_zero d.denominator (label_form rows i · w.vector) (row_value i l few))

  -- where each coordinate is 0 at those before it that are left, the free columns are left
  pub free_in_key : ((j k : ℕ) → Contains d.labels j → Contains d.key k → IsCoordinate k → k < j →
      Table.entry (table_of d) j k ≡ pos 0) → (j : ℕ) → IsFree (cone_of p) j → Contains d.key (coordinate_label j)
  free_in_key leftmost j f =
      ⊎_elim (λ (c : Contains d.key (coordinate_label j)). c)
      (λ (out : Contains d.key (coordinate_label j) → ⊥).
      absurd (not_outside j f (ends_at_free (cone_of p) j f)
      (λ k l c h less. leftmost (coordinate_label j) k l c h less) out))
      (contains_or d.key (coordinate_label j))

  -- the least column of a row is not free
  pub least_is_not_free : (i k : ℕ) → Contains d.labels i → IsRow i → IsLeastColumn d i k →
      IsFree (cone_of p) (coordinate_index k) → ⊥
  least_is_not_free i k l few column f =
      let h = column.coordinate in
      let e : k ≡ coordinate_label (coordinate_index k) = omega arith in
      not_least (coordinate_index k) f (ends_at_free (cone_of p) (coordinate_index k) f) i l few (subst (IsLeastColumn d i) e column)
