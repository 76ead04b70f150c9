-- Where all rows have been tried: a coordinate is left in the key exactly where its column is free.
use Rattle.std.proofs.Common.{◌≡◌, ◌≢◌, inl, inr, ⊎_elim, ℕ, ◌+◌, ◌<◌, ◌≤◌, pos, neg_ℤ, map, length, take, sym, ap, subst, ◌∙◌, arith}
use Rattle.std.specs.List.{All, Contains, slice_index_or}
use Rattle.std.proofs.lemmas.Bool.{cases_lt}
use Rattle.std.proofs.lemmas.List.{length-map}
use Rattle.poly_num.specs.Vectors.{Vector, ◌·◌}
use Rattle.poly_num.proofs.Order.{positive_nonzero}
use Rattle.poly_model.specs.Systems.{row_of, first_unit, Polyhedron, cone_of}
use Rattle.poly_model.specs.Cones.{at, IsTight}
use Rattle.poly_model.specs.Labels.{IsRow, coordinate_label}
use Rattle.poly_model.specs.Dictionaries.{Table}
use Rattle.poly_model.specs.FreeColumns.{IsFree}
use Rattle.linear_laws.proofs.Entries.{within_from_entry}
use Rattle.linear_laws.proofs.Tails.{length-take}
use Rattle.cone_laws.proofs.FeasibleLemmas.{first_unit_reads}
use Rattle.dictionary_laws.proofs.Members.{contains_or}
use Rattle.dictionary.specs.Views.{Dictionary, table_of}
use Rattle.hull_lift.specs.Facets.{column_of}
use Rattle.linearity.specs.declared.eliminate.Pass.TheVariants.{Others}
use Rattle.linearity.specs.Elimination.{IsDictionaryOf, IsEliminated}
use Rattle.linearity.proofs.ConeLabels.{HasNoFirst}
use Rattle.linearity.proofs.RowValues.{past_end, combined, row_form, coordinate_value, tight_rows}
use Rattle.linearity.proofs.ConeReadings.{ReadsCone, cone_readings}
use Rattle.linearity.proofs.FreeLabels.{free_in_key}

module _ (p : Polyhedron) (d : Dictionary) (is : IsDictionaryOf p d) where
  abbrev reads : ReadsCone p d
  reads = cone_readings p d is

  module _ (e : IsEliminated (cone_of p).rows Others (length (cone_of p).rows + 1) d) where
    -- ---- the column of a coordinate that is left
    module _ (j : ℕ) (c : Contains d.key (coordinate_label j)) where
      abbrev pub left_column : Vector
      left_column = column_of d (coordinate_label j) p.n

      at_label : (i : ℕ) → Contains d.labels (coordinate_label i) →
          at i left_column ≡ Table.entry (table_of d) (coordinate_label i) (coordinate_label j)
      at_label i h = sym (coordinate_value p i left_column) ∙ reads.values (coordinate_label i) (coordinate_label j) h c

      pub left_width : length left_column ≡ p.n
      left_width = reads.width (coordinate_label j) c

      -- it is the denominator at its own coordinate
      pub left_here : at j left_column ≡ d.denominator
      left_here = at_label j (reads.inside (coordinate_label j) c) ∙ reads.own (coordinate_label j) c

      -- and 0 at the others that are left
      pub left_elsewhere : (i : ℕ) → Contains d.key (coordinate_label i) → i ≢ j → at i left_column ≡ pos 0
      left_elsewhere i h n =
          at_label i (reads.inside (coordinate_label i) h)
          ∙ reads.others (coordinate_label i) (coordinate_label j) h c
          (λ (f : coordinate_label j ≡ coordinate_label i). n (omega arith))

      -- and 0 beyond
      left_beyond : (i : ℕ) → j < i → at i left_column ≡ pos 0
      left_beyond i l =
          ⊎_elim
          (λ (h : i < p.n). ⊎_elim
          (λ (k : Contains d.labels (coordinate_label i)).
          at_label i k ∙ e.leftmost (coordinate_label i) (coordinate_label j) k c (omega arith) (omega arith))
          (λ (k : (i ≡ 0) × HasNoFirst d.labels). let z = k.0 in absurd (omega arith))
          (reads.labels.each_coordinate i h))
          (λ (h : p.n ≤ i). past_end i left_column (omega (arith, left_width)))
          (cases_lt i p.n)

      -- each row is 0 there: in the key by its unit row, outside it because it has been tried
      left_entry : (i : ℕ) → Contains d.labels i → IsRow i → i ≤ length (cone_of p).rows →
          Table.entry (table_of d) i (coordinate_label j) ≡ pos 0
      left_entry i h l m =
          ⊎_elim
          (λ (k : Contains d.key i).
          reads.others i (coordinate_label j) k c (λ (f : coordinate_label j ≡ i). omega arith))
          (λ (k : Contains d.key i → ⊥).
          e.settled i h l (inr (omega arith)) k (coordinate_label j) c (inl (omega arith)))
          (contains_or d.key i)

      left_row : (i : ℕ) → 1 ≤ i → i ≤ length (cone_of p).rows →
          (row_of (cone_of p).rows i).entries · left_column ≡ pos 0
      left_row i l m =
          let few = is.few in
          let row : IsRow i = omega arith in
          ⊎_elim
          (λ (h : Contains d.labels i).
          ap (λ g. g · left_column) (sym (row_form p i row))
          ∙ reads.values i (coordinate_label j) h c ∙ left_entry i h row m)
          (λ (h : ((row_of (cone_of p).rows i).entries ≡ first_unit p.n) × HasNoFirst d.labels).
          ap (λ g. g · left_column) h.0 ∙ first_unit_reads p.n left_column
          ∙ reads.level (coordinate_label j) c h.1)
          (reads.labels.each_row i l m)

      pub left_tight : All (IsTight left_column) (cone_of p).rows
      left_tight = tight_rows p left_column left_row

      left_within : j < length left_column
      left_within =
          within_from_entry left_column j
          (λ z. positive_nonzero d.denominator reads.positive (sym left_here ∙ z))

      -- so its column is free
      pub free_from_left : IsFree (cone_of p) j
      free_from_left = record {
        within = subst (λ n. j < n) left_width left_within;
        factor = d.denominator;
        weights = map neg_ℤ (take j left_column);
        nonzero = positive_nonzero d.denominator reads.positive;
        earlier = length-map (take j left_column) neg_ℤ ∙ length-take j left_column left_within;
        combines = λ m none l.
            combined j d.denominator left_column (slice_index_or (cone_of p).rows m none).entries left_within
            left_here left_beyond (left_tight m none l);
      }

    -- ---- a free column is left
    pub left_from_free : (j : ℕ) → IsFree (cone_of p) j → Contains d.key (coordinate_label j)
    left_from_free = free_in_key p d is e.leftmost
