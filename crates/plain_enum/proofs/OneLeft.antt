-- Where one label is left: its column, the dual columns of the rows taken, and the local test by entries.
use Rattle.std.proofs.Common.{◌≡◌, ◌≢◌, Bool, ℕ, ◌+◌, ◌<◌, ◌≤◌, pos, List, [], ◌∷◌, ◌++◌, length, length-append, refl, sym, ap, ◌∙◌, subst, arith}
use Rattle.std.specs.List.{Contains}
use Rattle.std.proofs.lemmas.List.Elements.{Contains-append_left}
use Rattle.poly_num.specs.Vectors.{◌·◌}
use Rattle.poly_num.proofs.Order.{positive_nonzero}
use Rattle.poly_num.proofs.VectorLemmas.{dot-zero}
use Rattle.poly_model.specs.Independence.{Vanish}
use Rattle.poly_model.specs.Systems.{Polyhedron}
use Rattle.poly_model.specs.Spaces.{cone_space}
use Rattle.poly_model.specs.Dictionaries.{Table, IsDictionary}
use Rattle.linear_laws.proofs.Members.{Contains-first}
use Rattle.dictionary_laws.specs.Numbers.{IsOwnRow}
use Rattle.dictionary_laws.proofs.Values.{is_label, own_row}
use Rattle.dictionary.specs.Views.{Dictionary, table_of}
use Rattle.hull_lift.specs.Facets.{column_of}
use Rattle.poly_model.specs.Labels.{constant_label}
use Rattle.listing_laws.specs.ListedCone.{ListedCone, row_at}
use Rattle.listing_laws.specs.Prefixes.{marked_labels}
use Rattle.listing_laws.specs.Directions.{DualVector, IsLeft, LeavesOne}
use Rattle.listing_laws.proofs.FirstLists.{labels_within}
use Rattle.plain_enum.specs.Standing.{form_of, parted, StandsAt, HasColumnValues, LeavesColumn}
use Rattle.plain_enum.specs.Laws.{TestByEntries}
use Rattle.plain_enum.proofs.ConeVectors.{values_at_columns}
use Rattle.plain_enum.proofs.Counting.{length_of_cobasis}
use Rattle.plain_enum.proofs.Parts.{distinct_apart, in_first, in_second, in_third}
use Rattle.plain_enum.proofs.RowsTaken.{as_many, row_form, row_is_label}
use Rattle.plain_enum.proofs.Standings.{stands_dictionary, taken_within, taken_form, left_is_not_fixed, left_is_not_taken}

module _ (p : Polyhedron) (cone : ListedCone) (d : Dictionary) (fixed : List ℕ) (k : ℕ) (marks : List Bool)
    (s : StandsAt p cone d fixed (k ∷ []) marks) (b : k < constant_label) where
  abbrev labels : List ℕ
  labels = parted fixed marks (k ∷ [])

  abbrev here : IsDictionary (cone_space p) labels (table_of d)
  here = stands_dictionary p cone d fixed (k ∷ []) marks s

  -- ---- the column of a label of the key
  module _ (j : ℕ) (c : Contains labels j) (l : j < constant_label) where
    column : HasColumnValues p d j
    column = values_at_columns p d s.dictionary j (s.key.back j c) l

    own : (i : ℕ) → Contains labels i → IsOwnRow (cone_space p) labels (table_of d) i
    own i e = own_row (cone_space p) labels here.cobasis (table_of d) here.writes i e

    zero_elsewhere : (i : ℕ) → Contains labels i → i ≢ j → form_of p i · column_of d j p.n ≡ pos 0
    zero_elsewhere i e n =
        column.values i (is_label (cone_space p) labels here.cobasis i e) ∙ (own i e).elsewhere j c (λ f. n (sym f))

    nonzero_here : form_of p j · column_of d j p.n ≢ pos 0
    nonzero_here z =
        positive_nonzero d.denominator here.writes.positive
        (sym (own j c).here ∙ sym (column.values j (is_label (cone_space p) labels here.cobasis j c)) ∙ z)

    wide : length (column_of d j p.n) ≡ cone.n
    wide = column.width ∙ sym s.over.width

    base_zero : (Contains fixed j → ⊥) → Vanish cone.base (column_of d j p.n)
    base_zero n =
        (s.base (column_of d j p.n) column.width).1
        (λ i e. zero_elsewhere i (in_first fixed (marked_labels marks) (k ∷ []) i e) (λ f. n (subst (Contains fixed) f e)))

    rows_zero : (i : ℕ) → Contains (marked_labels marks) i → i ≢ j → row_at cone i · column_of d j p.n ≡ pos 0
    rows_zero i e n =
        ap (λ g. g · column_of d j p.n) (taken_form p cone d fixed (k ∷ []) marks s i e)
        ∙ zero_elsewhere i (in_second fixed (marked_labels marks) (k ∷ []) i e) n

    row_value : (i : ℕ) → 0 < i → i ≤ length cone.rows →
        row_at cone i · column_of d j p.n ≡ Table.entry (table_of d) i j
    row_value i m n =
        ap (λ g. g · column_of d j p.n) (row_form p cone s.over i m n)
        ∙ column.values i (row_is_label p cone s.over i m n)

  -- ---- the rows taken
  in_taken : (j : ℕ) → Contains (marked_labels marks) j → Contains labels j
  in_taken j c = in_second fixed (marked_labels marks) (k ∷ []) j c

  taken_below : (j : ℕ) → Contains (marked_labels marks) j → j < constant_label
  taken_below j c =
      omega (arith, taken_within p cone d fixed (k ∷ []) marks s j c, as_many p cone s.over, s.over.few)

  taken_is_not_fixed : (j : ℕ) → Contains (marked_labels marks) j → Contains fixed j → ⊥
  taken_is_not_fixed j c e =
      distinct_apart fixed (marked_labels marks ++ k ∷ []) s.distinct j e
      (Contains-append_left (marked_labels marks) (k ∷ []) j c)

  abbrev dual : (j : ℕ) → Contains (marked_labels marks) j → DualVector cone (marked_labels marks) j
  dual j c = record {
    vector = column_of d j p.n;
    width = wide j (in_taken j c) (taken_below j c);
    base = base_zero j (in_taken j c) (taken_below j c) (taken_is_not_fixed j c);
    here = λ z. nonzero_here j (in_taken j c) (taken_below j c)
        (ap (λ g. g · column_of d j p.n) (sym (taken_form p cone d fixed (k ∷ []) marks s j c)) ∙ z);
    elsewhere = rows_zero j (in_taken j c) (taken_below j c);
  }

  -- ---- what is left
  in_left : Contains labels k
  in_left = in_third fixed (marked_labels marks) (k ∷ []) k (Contains-first k [])

  left : IsLeft cone (marked_labels marks) (column_of d k p.n)
  left = record {
    nonzero = λ z. nonzero_here k in_left b (dot-zero (form_of p k) (column_of d k p.n) z);
    width = wide k in_left b;
    base = base_zero k in_left b (λ e. left_is_not_fixed p cone d fixed (k ∷ []) marks s k e (Contains-first k []));
    taken = λ i e. rows_zero k in_left b i e
        (λ f. left_is_not_taken p cone d fixed (k ∷ []) marks s k (subst (Contains (marked_labels marks)) f e)
        (Contains-first k []));
  }

  count : length cone.base + length (marked_labels marks) + 1 ≡ cone.n
  count =
      omega (
        arith,
        s.count,
        s.over.width,
        length_of_cobasis p labels here.cobasis,
        length-append fixed (marked_labels marks ++ k ∷ []),
        length-append (marked_labels marks) (k ∷ []),
      )

  abbrev leaves : LeavesOne cone marks (column_of d k p.n)
  leaves = record { within = s.within; count = count; duals = dual; left = left }

  pub one_is_left : LeavesColumn p cone d marks k
  one_is_left = record {
    leaves = leaves;
    at_left = row_value k in_left b;
    duals = λ j c. refl;
    at_duals = λ i m n j c. row_value j (in_taken j c) (taken_below j c) i m n;
  }

-- ---- the local test
pub test_by_entries : TestByEntries
test_by_entries p cone d marks k s = (
  λ h i a e j c l. sym (s.at_duals i a (within i j c l) j c) ∙ h i a (s.at_left i a (within i j c l) ∙ e) j c l,
  λ h i a e j c l. s.at_duals i a (within i j c l) j c ∙ h i a (sym (s.at_left i a (within i j c l)) ∙ e) j c l,
)
  where
    within : (i j : ℕ) → Contains (marked_labels marks) j → i < j → i ≤ length cone.rows
    within i j c l = omega (arith, (labels_within 1 marks j c).1, s.leaves.within)
