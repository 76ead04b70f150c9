-- Where a listing begins: at the empty prefix stands a dictionary at which the linear rows have been tried.
use Rattle.std.proofs.Common.{◌≡◌, ⊎_elim, inl, ℕ, zero, suc, ◌-◌, ◌<◌, ◌≤◌, true, false, List, [], ◌∷◌, ◌++◌, pos, length, refl, sym, ap, subst, ◌∙◌, arith}
use Rattle.std.specs.Prelude.{not}
use Rattle.std.specs.List.{All, Contains}
use Rattle.std.proofs.lemmas.Bool.{cases_Bool, cases_lt, cond-true, cond-false, lt-ltb, le-ltb, not-true, not-false, not_from_true, not_from_false, true≢false}
use Rattle.std.proofs.lemmas.List.{length-map, get_or_default}
use Rattle.std.proofs.lemmas.List.Elements.{All-append, Contains-append_left, Contains-append_right, Contains-append_cases}
use Rattle.poly_num.specs.Vectors.{Vector, ◌·◌, IsZero}
use Rattle.poly_model.specs.declared.overflow.Phase.TheVariants.{Cone}
use Rattle.poly_model.specs.Independence.{Vanish}
use Rattle.poly_model.specs.Systems.{Row, row_of, no_row, System, Polyhedron, cone_of}
use Rattle.poly_model.specs.Cones.{IsTight}
use Rattle.poly_model.specs.FreeColumns.{IsFree, IsZeroAtFree, AreFreeColumns, AreLinesOf, AreLines}
use Rattle.poly_model.specs.Spaces.{IsSpaceOf, is_member, cone_space}
use Rattle.poly_model.specs.Labels.{coordinates_from, IsRow, IsCoordinate, is_row, coordinate_label, coordinate_index}
use Rattle.poly_model.specs.Dictionaries.{Table}
use Rattle.poly_model.proofs.RowLemmas.{row_from_one}
use Rattle.linear_laws.specs.Distinct.{AreDistinct}
use Rattle.linear_laws.proofs.AllLemmas.{all_from_map, all_to_map}
use Rattle.linear_laws.proofs.Members.{all_at}
use Rattle.dictionary_laws.proofs.Directions.{times_zero, zero_times}
use Rattle.dictionary_laws.proofs.Duals.{distinct}
use Rattle.dictionary_laws.proofs.Filters.{filter_only, filter_kept, distinct_filter, member_only, member_has}
use Rattle.dictionary_laws.proofs.Members.{all_from, contains_or}
use Rattle.dictionary_laws.proofs.Values.{is_label}
use Rattle.dictionary.specs.MainPhase.{stays_in}
use Rattle.dictionary.specs.Views.{Dictionary, IsDictionaryIn, table_of}
use Rattle.linearity.specs.Columns.{columns_in, coordinate_vectors}
use Rattle.linearity.proofs.ConeLabels.{HasConeLabels, over_cone_of}
use Rattle.linearity.proofs.KeyColumns.{column_only}
use Rattle.linearity.proofs.LeftLines.{elimination_leaves_lines}
use Rattle.linearity.proofs.RowValues.{row_form, coordinate_value}
use Rattle.listing_laws.specs.ListedCone.{ListedCone, IsConeOf}
use Rattle.listing_laws.proofs.BaseLemmas.{shows_is_shown}
use Rattle.plain_enum.specs.Begin.{IsBegun, fixed_in, begun_cone, is_kept, left_in}
use Rattle.plain_enum.specs.Columns.{LeavesNoCoordinate}
use Rattle.plain_enum.specs.Listed.{IsAt, HasShapeOf}
use Rattle.plain_enum.specs.Standing.{form_of, AreZeroAt, HasRowsOf, StandsAt}
use Rattle.plain_enum.proofs.ConeVectors.{DualOver, dual_over, zero_over, zero_by_terms}
use Rattle.plain_enum.proofs.Counting.{new_forms}
use Rattle.plain_enum.proofs.FixedLabels.{row_stays, coordinate_stays, FixedAre}
use Rattle.plain_enum.proofs.Parts.{distinct-append}
use Rattle.plain_enum.proofs.RowsTaken.{as_many, row_is_label}

module _ (p : Polyhedron) (at last : Dictionary) (free : List ℕ) (b : IsBegun p at last free) where
  abbrev rows : List Row
  rows = (cone_of p).rows

  abbrev fixed : List ℕ
  fixed = fixed_in rows free at.key

  abbrev left : List ℕ
  left = left_in free at.key

  is : IsDictionaryIn (cone_space p) at
  is =
      subst (λ s. IsDictionaryIn s at) (subst (λ f. IsSpaceOf p f b.at_of.space) b.phase b.at_of.is_space)
      b.at_of.dictionary

  key_label : (k : ℕ) → Contains at.key k → Contains (cone_space p).labels k
  key_label = is_label (cone_space p) at.key is.dictionary.cobasis

  cone_labels : HasConeLabels p (cone_space p).labels
  cone_labels = (over_cone_of p Cone (cone_space p) b.at_of.few (inl refl) refl).labels

  free_columns : AreFreeColumns (cone_of p) free
  free_columns =
      subst (AreFreeColumns (cone_of p)) (sym b.columns)
      (elimination_leaves_lines p last b.last_of b.ascending b.all).free

  -- the vectors of the coordinates that are left once all rows have been tried are the lines
  pub begun_lines : (sys : System) (lines : List Vector) → sys ≡ cone_of p → lines ≡ coordinate_vectors last sys.n →
      AreLines (cone_of p) lines
  begun_lines sys lines file same =
      let leaves = elimination_leaves_lines p last b.last_of b.ascending b.all in
      record {
        columns = columns_in last.key;
        free = leaves.free;
        each = subst (AreLinesOf (cone_of p) (columns_in last.key))
            (sym (same ∙ ap (λ (s : System). coordinate_vectors last s.n) file)) leaves.lines;
      }

  -- ---- which labels are fixed
  fixed_only : (k : ℕ) → Contains fixed k → Contains at.key k × (stays_in rows free k ≡ false)
  fixed_only k c =
      let h = filter_only (λ j. not (stays_in rows free j)) at.key k c in (h.0, not-true (stays_in rows free k) h.1)

  fixed_has : (k : ℕ) → Contains at.key k → stays_in rows free k ≡ false → Contains fixed k
  fixed_has k c e = filter_kept (λ j. not (stays_in rows free j)) at.key k c (not_from_false (stays_in rows free k) e)

  fixed_are : FixedAre rows free at fixed
  fixed_are k c = (λ f. (fixed_only k f).1, λ e. fixed_has k c e)

  -- the rows of the key are linear, so they are fixed
  row_is_linear : (k : ℕ) → Contains at.key k → IsRow k → (row_of rows k).linear ≡ true
  row_is_linear k c l = (b.linear.taken k c l).0

  row_is_fixed : (k : ℕ) → Contains at.key k → IsRow k → Contains fixed k
  row_is_fixed k c l =
      fixed_has k c (row_stays rows free k l ∙ not_from_true (row_of rows k).linear (row_is_linear k c l))

  -- a free coordinate is in the key, and fixed
  free_is_fixed : (j : ℕ) → IsFree (cone_of p) j → Contains fixed (coordinate_label j)
  free_is_fixed j f =
      let c = (free_columns.exactly j).0 f in
      let high : IsCoordinate (coordinate_label j) = omega arith in
      let there : coordinate_index (coordinate_label j) ≡ j = omega arith in
      fixed_has (coordinate_label j)
      (b.later (coordinate_label j) (column_only last.key j (subst (λ ks. Contains ks j) b.columns c)) high)
      (coordinate_stays rows free (coordinate_label j) high
      ∙ not_from_true (is_member (coordinate_index (coordinate_label j)) free)
      (member_has (coordinate_index (coordinate_label j)) free (subst (Contains free) (sym there) c)))

  -- ---- which labels are left
  pub left_only : (k : ℕ) → Contains left k → Contains at.key k × (IsCoordinate k) × (is_member (coordinate_index k) free ≡ false)
  left_only k c =
      let h = filter_only (is_kept free) at.key k c in
      ⊎_elim
      (λ (l : IsRow k).
      absurd (true≢false (sym h.1 ∙ cond-true (is_row k) false (not (is_member (coordinate_index k) free)) (lt-ltb k coordinates_from l))))
      (λ (l : IsCoordinate k). (
        h.0,
        l,
        not-true (is_member (coordinate_index k) free)
            (sym (cond-false (is_row k) false (not (is_member (coordinate_index k) free)) (le-ltb k coordinates_from l)) ∙ h.1),
      ))
      (cases_lt k coordinates_from)

  pub left_has : (k : ℕ) → Contains at.key k → IsCoordinate k → is_member (coordinate_index k) free ≡ false → Contains left k
  left_has k c l e =
      filter_kept (is_kept free) at.key k c
      (cond-false (is_row k) false (not (is_member (coordinate_index k) free)) (le-ltb k coordinates_from l)
      ∙ not_from_false (is_member (coordinate_index k) free) e)

  -- each label of the key is one or the other
  fixed_or_left : (P : Type 0) (k : ℕ) → Contains at.key k → (Contains fixed k → P) → (Contains left k → P) → P
  fixed_or_left P k c f g =
      ⊎_elim
      (λ (l : IsRow k). f (row_is_fixed k c l))
      (λ (l : IsCoordinate k). ⊎_elim
      (λ (e : is_member (coordinate_index k) free ≡ true).
      f (fixed_has k c (coordinate_stays rows free k l ∙ not_from_true (is_member (coordinate_index k) free) e)))
      (λ (e : is_member (coordinate_index k) free ≡ false). g (left_has k c l e))
      (cases_Bool (is_member (coordinate_index k) free)))
      (cases_lt k coordinates_from)

  apart : (k : ℕ) → Contains fixed k → Contains left k → ⊥
  apart k c d =
      let h = left_only k d in
      true≢false
      (sym (coordinate_stays rows free k h.1 ∙ not_from_false (is_member (coordinate_index k) free) h.2) ∙ (fixed_only k c).1)

  -- ---- where the fixed labels are 0
  abbrev cone : ListedCone
  cone = begun_cone p free at

  over : HasRowsOf p cone
  over = record { width = refl; rows = refl; few = b.at_of.few }

  row_label : (i : ℕ) → 1 ≤ i → i ≤ length rows → Contains (cone_space p).labels i
  row_label i some within = row_is_label p cone over i some (omega (arith, as_many p cone over))

  module _ (z : Vector) (width : length z ≡ p.n) where
    linear_is_zero : AreZeroAt p fixed z → (i : ℕ) → 1 ≤ i → i ≤ length rows → (row_of rows i).linear ≡ true →
        form_of p i · z ≡ pos 0
    linear_is_zero zeros i some within linear =
        let low : IsRow i = let few = b.at_of.few in omega arith in
        ⊎_elim
        (λ (c : Contains at.key i). zeros i (row_is_fixed i c low))
        (λ (n : Contains at.key i → ⊥).
        zero_by_terms p at.key is.dictionary.cobasis (table_of at) is.dictionary.writes i (row_label i some within)
        z width
        (λ k c. ⊎_elim
        (λ (l : IsRow k).
        times_zero (Table.entry (table_of at) i k) (form_of p k · z) (zeros k (row_is_fixed k c l)))
        (λ (l : IsCoordinate k).
        zero_times (Table.entry (table_of at) i k) (form_of p k · z)
        (b.linear.settled i (subst (λ ks. Contains ks i) (sym is.labels) (row_label i some within)) low
        (linear, omega arith) n k c (inl l)))
        (cases_lt k coordinates_from)))
        (contains_or at.key i)

    linear_rows_are_tight : AreZeroAt p fixed z → All (λ row. row.linear ≡ true → IsTight z row) rows
    linear_rows_are_tight zeros m none l =
        subst (λ (row : Row). row.linear ≡ true → IsTight z row) (get_or_default rows m no_row none l)
        (λ e.
        let low : suc m < coordinates_from = let few = b.at_of.few in omega arith in
        sym (ap (λ g. g · z) (row_form p (suc m) low))
        ∙ linear_is_zero zeros (suc m) (omega arith) (omega arith) e)

    free_are_zero : AreZeroAt p fixed z → IsZeroAtFree (cone_of p) z
    free_are_zero zeros j f = sym (coordinate_value p j z) ∙ zeros (coordinate_label j) (free_is_fixed j f)

    fixed_are_zero : IsZeroAtFree (cone_of p) z → All (λ row. row.linear ≡ true → IsTight z row) rows →
        AreZeroAt p fixed z
    fixed_are_zero free_zero tight k c =
        let h = fixed_only k c in
        ⊎_elim
        (λ (l : IsRow k).
        let r = cone_labels.rows_only k (key_label k h.0) l in
        let some = r.0 in
        let within = r.1 in
        let here = row_from_one rows k some in
        ap (λ g. g · z) (row_form p k l)
        ∙ ap (λ (row : Row). row.entries · z) here
        ∙ tight (k - 1) no_row (omega arith) (ap (λ (row : Row). row.linear) (sym here) ∙ row_is_linear k h.0 l))
        (λ (l : IsCoordinate k).
        let j : ℕ = coordinate_index k in
        let member = not-false (is_member j free) (sym (coordinate_stays rows free k l) ∙ h.1) in
        let label : coordinate_label j ≡ k = omega arith in
        subst (λ i. form_of p i · z ≡ pos 0) label
        (coordinate_value p j z ∙ free_zero j ((free_columns.exactly j).1 (member_only j free member))))
        (cases_lt k coordinates_from)

    base_is_zero : Vanish cone.base z → AreZeroAt p fixed z
    base_is_zero v = all_at (λ k. form_of p k · z ≡ pos 0) fixed (all_from_map (λ g. g · z ≡ pos 0) (form_of p) fixed v)

    base_vanishes : AreZeroAt p fixed z → Vanish cone.base z
    base_vanishes zeros =
        all_to_map (λ g. g · z ≡ pos 0) (form_of p) fixed (all_from (λ k. form_of p k · z ≡ pos 0) fixed zeros)

  -- ---- the cone over the fixed labels
  key_is_distinct : AreDistinct at.key
  key_is_distinct = distinct (cone_space p) at.key is.dictionary.cobasis

  fixed_distinct : AreDistinct fixed
  fixed_distinct = distinct_filter (λ j. not (stays_in rows free j)) at.key key_is_distinct

  dual_over_fixed : (k : ℕ) → Contains fixed k → DualOver p fixed k
  dual_over_fixed k c =
      let e = dual_over p at.key is.dictionary.cobasis k (fixed_only k c).0 in
      record {
        vector = e.vector;
        width = e.width;
        here = e.here;
        elsewhere = λ j i n. e.elsewhere j (fixed_only j i).0 n;
      }

  pub is_cone : IsConeOf (cone_of p) cone
  is_cone = record {
    width = refl;
    independent = new_forms p fixed fixed_distinct dual_over_fixed;
    fixed = λ z width. (
      λ v. let zeros = base_is_zero z width v in (free_are_zero z width zeros, linear_rows_are_tight z width zeros),
      λ h. base_vanishes z width (fixed_are_zero z width h.0 h.1),
    );
    rows = refl;
    shows = shows_is_shown p.kind (cone_of p);
  }

  pub is_cone_of : (sys : System) → sys ≡ cone_of p → IsConeOf sys cone
  is_cone_of sys file = subst (λ s. IsConeOf s cone) (sym file) is_cone

  -- ---- the dictionary stands at the empty prefix
  pub stands : StandsAt p cone at fixed left []
  stands = record {
    over = over;
    dictionary = is;
    within = omega arith;
    key = record {
      there = λ k c. fixed_or_left (Contains (fixed ++ left) k) k c
          (Contains-append_left fixed left k) (Contains-append_right fixed left k);
      back = λ k c. ⊎_elim (λ f. (fixed_only k f).0) (λ l. (left_only k l).0) (Contains-append_cases fixed left k c);
    };
    distinct = distinct-append fixed left fixed_distinct (distinct_filter (is_kept free) at.key key_is_distinct) apart;
    coordinates = λ k c. (left_only k c).1;
    base = λ z width. (base_is_zero z width, base_vanishes z width);
    count = length-map fixed (form_of p);
  }

  pub begins_at : (sys : System) (depth : ℕ) → sys ≡ cone_of p → length left ≡ suc depth →
      IsAt sys free at 1 depth p cone fixed left []
  begins_at sys depth file count = record {
    file = file;
    is_cone = is_cone_of sys file;
    phase = b.phase;
    stands = stands;
    fixed_are = subst (λ (s : System). FixedAre s.rows free at fixed) (sym file) fixed_are;
    next = refl;
    count = count;
  }

  -- ---- where nothing is left
  -- only zero is 0 at the base
  pub zero_where_none : LeavesNoCoordinate at free → (y : Vector) → length y ≡ p.n → Vanish cone.base y → IsZero y
  zero_where_none none y width v =
      zero_over p at.key is.dictionary.cobasis y width
      (λ k c. fixed_or_left (form_of p k · y ≡ pos 0) k c (base_is_zero y width v k)
      (λ l. let h = left_only k l in absurd (none k h.0 h.1 h.2)))

-- ---- copies have the shape
one_shape : (d e : Dictionary) → e ≡ d → All (HasShapeOf d) (e ∷ [])
one_shape d e same zero z l = record {
  rows = ap (λ (x : Dictionary). length x.labels) same;
  columns = ap (λ (x : Dictionary). length x.columns) same;
}
one_shape d e same (suc k) z l = absurd (omega (arith, l))

pub copied_more : (d e : Dictionary) (made : List Dictionary) → e ≡ d → All (HasShapeOf d) made →
    All (HasShapeOf d) (made ++ e ∷ [])
copied_more d e made same a = All-append (HasShapeOf d) made (e ∷ []) a (one_shape d e same)
