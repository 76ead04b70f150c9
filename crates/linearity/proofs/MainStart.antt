-- What a dictionary of the file's rows says once rows have been tried: its equations are settled; it can be read in the
-- main space; and once all have been tried, the labels that stay are the start cobasis there.
use Rattle.std.proofs.Common.{◌≡◌, ⊎_elim, inl, inr, ℕ, ◌+◌, ◌-◌, ◌<◌, ◌≤◌, true, false, List, [], ◌++◌, pos, map, length, length-append, refl, sym, ap, subst, ◌∙◌, arith}
use Rattle.std.specs.Prelude.{not}
use Rattle.std.specs.List.{Contains, filter, range_with_len}
use Rattle.std.proofs.lemmas.Bool.{cases_Bool, cond-true, cond-false, lt-ltb, le-ltb, ltb-true, ltb-false, not-true, not_from_true, not_from_false, false_from_ne_true, true≢false}
use Rattle.std.proofs.lemmas.List.Elements.{All-contains, Contains-append_cases}
use Rattle.poly_num.specs.Vectors.{Vector}
use Rattle.poly_model.specs.declared.kind.Kind.{Kind}
use Rattle.poly_model.specs.declared.kind.Kind.TheVariants.{H, V}
use Rattle.poly_model.specs.Keys.{IsAscending}
use Rattle.poly_model.specs.Systems.{row_of, Row, Polyhedron, file_rows, added_row, cone_of}
use Rattle.poly_model.proofs.RowLemmas.{row_from_one}
use Rattle.poly_model.specs.FreeColumns.{AreFreeColumns}
use Rattle.poly_model.specs.Cones.{coordinate}
use Rattle.poly_model.specs.Spaces.{equations, is_member, is_left, labels_of, cut_space, prepare_space, main_space, IsStartCobasis}
use Rattle.poly_model.specs.Labels.{coordinates_from, IsRow, IsCoordinate, is_row, coordinate_label, coordinate_index}
use Rattle.poly_model.specs.Dictionaries.{Table}
use Rattle.dictionary_laws.specs.Coordinates.{coordinate_key}
use Rattle.poly_model.specs.Equations.{HasPointOn, equation_labels}
use Rattle.dictionary_laws.specs.Points.{AreSettled}
use Rattle.dictionary_laws.specs.MainSpace.{stays, CanEnterMain, EntersMain}
use Rattle.dictionary_laws.proofs.Members.{contains_or}
use Rattle.dictionary_laws.proofs.Filters.{filter_only, filter_kept, range_only, member_only, member_has, ascending_filter, ascending_range}
use Rattle.dictionary_laws.proofs.CoordinateSpaces.{coordinate_keys}
use Rattle.dictionary_laws.proofs.Values.{own_row}
use Rattle.dictionary_laws.proofs.MainRows.{linear_in_file, equation_only, equation_has, row_in_cone}
use Rattle.dictionary_laws.proofs.MainSpace.{equation_in, main_dictionary}
use Rattle.dictionary.specs.Views.{Dictionary, IsDictionaryIn, table_of}
use Rattle.dictionary.proofs.Joined.{ascending_joined}
use Rattle.linearity.specs.declared.eliminate.Pass.TheVariants.{Others}
use Rattle.linearity.specs.Columns.{columns_in}
use Rattle.linearity.specs.Elimination.{IsBehind, IsSettled, IsEliminated}
use Rattle.linearity.proofs.KeyColumns.{column_of_label, column_only}
use Rattle.linearity.proofs.StartCobasis.{is_start}

-- ---- labels
labels_ascend : (m j n : ℕ) → m < coordinates_from → IsAscending (labels_of m j n)
labels_ascend m j n few =
    ascending_joined (range_with_len 1 m) (coordinate_key j n) (ascending_range 1 m) (coordinate_keys j n).ascending
    (λ k l c d. let h = (range_only 1 m k c).1 in let g = (coordinate_keys j n).coordinates l d in omega arith)

row_label : (m j n k : ℕ) → Contains (labels_of m j n) k → is_row k ≡ true → (0 < k) × (k ≤ m)
row_label m j n k c e =
    ⊎_elim
    (λ (d : Contains (range_with_len 1 m) k). let l = range_only 1 m k d in (omega arith, omega arith))
    (λ (d : Contains (coordinate_key j n) k).
    let g = (coordinate_keys j n).coordinates k d in let l = ltb-true k coordinates_from e in absurd (omega arith))
    (Contains-append_cases (range_with_len 1 m) (coordinate_key j n) k c)

cut_labels_ascend : (kind : Kind) (p : Polyhedron) → length (cone_of p).rows < coordinates_from →
    IsAscending (cut_space kind p []).labels
cut_labels_ascend H p few =
    labels_ascend (length (file_rows p)) 1 p.n
    (omega (arith, few, length-append (file_rows p) (added_row p.kind p.n (file_rows p))))
cut_labels_ascend V p few = labels_ascend (length (cone_of p).rows) 0 p.n few

cut_row_label : (kind : Kind) (p : Polyhedron) (k : ℕ) → Contains (cut_space kind p []).labels k → is_row k ≡ true →
    (0 < k) × (k ≤ length (cone_of p).rows)
cut_row_label H p k c e =
    let l = row_label (length (file_rows p)) 1 p.n k c e in
    (l.0, omega (arith, l.1, length-append (file_rows p) (added_row p.kind p.n (file_rows p))))
cut_row_label V p k c e = row_label (length (cone_of p).rows) 0 p.n k c e

-- the labels of the main space, whichever its kind
main_labels : (kind : Kind) (p : Polyhedron) (fixed : List Vector) →
    (cut_space kind p fixed).labels ≡ (cut_space kind p []).labels
main_labels H p fixed = refl
main_labels V p fixed = refl

-- ---- a dictionary of the file's rows
module _ (p : Polyhedron) (few : length (cone_of p).rows < coordinates_from) (d : Dictionary)
    (is : IsDictionaryIn (prepare_space p) d) where
  abbrev rows : List Row
  rows = (cone_of p).rows

  pub few_in_file : length (file_rows p) < coordinates_from
  few_in_file = omega (arith, few, length-append (file_rows p) (added_row p.kind p.n (file_rows p)))

  key_label : (k : ℕ) → Contains d.key k → Contains (prepare_space p).labels k
  key_label k c = All-contains (Contains (prepare_space p).labels) d.key k is.dictionary.cobasis.labels c

  dict_label : (k : ℕ) → Contains (prepare_space p).labels k → Contains d.labels k
  dict_label k c = subst (λ ks. Contains ks k) (sym is.labels) c

  pub key_in_labels : (k : ℕ) → Contains d.key k → Contains d.labels k
  key_in_labels k c = dict_label k (key_label k c)

  -- a row of a label of the space, if it is linear, is an equation
  is_equation : (k : ℕ) → Contains (prepare_space p).labels k → is_row k ≡ true → (row_of rows k).linear ≡ true →
      Contains (equation_labels p) k
  is_equation k c r e =
      let l = (cut_row_label p.kind p k c r).0 in
      let within = linear_in_file p (k - 1) (ap (λ (row : Row). row.linear) (sym (row_from_one rows k l)) ∙ e) in
      equation_has p k (record {
        some = omega arith;
        within = omega (arith, within);
        linear = ap (λ (row : Row). row.linear) (sym (row_in_cone p k l (omega arith))) ∙ e;
      })

  pub linear_equation : (i : ℕ) → Contains (equation_labels p) i → (row_of rows i).linear ≡ true
  linear_equation i c =
      let q = equation_only p i c in
      let m = q.within in
      ap (λ (row : Row). row.linear) (row_in_cone p i q.some (omega arith)) ∙ q.linear

  -- the same of a label of the dictionary
  pub row_within : (i : ℕ) → Contains d.labels i → IsRow i → i < length rows + 1
  row_within i c l =
      let h = (cut_row_label p.kind p i (subst (λ ks. Contains ks i) is.labels c) (lt-ltb i coordinates_from l)).1 in omega arith

  pub row_is_equation : (i : ℕ) → Contains d.labels i → IsRow i → (row_of rows i).linear ≡ true →
      Contains (equation_labels p) i
  row_is_equation i c l e = is_equation i (subst (λ ks. Contains ks i) is.labels c) (lt-ltb i coordinates_from l) e

  -- a label of the key that is no equation stands behind every equation
  behind_equation : (i k : ℕ) → Contains (equation_labels p) i → Contains d.key k →
      (Contains (equation_labels p) k → ⊥) →
      IsBehind rows i k
  behind_equation i k c m n =
      ⊎_elim
      (λ (r : is_row k ≡ true). inr (
        false_from_ne_true (row_of rows k).linear (λ e. n (is_equation k (key_label k m) r e)),
        inl (linear_equation i c),
      ))
      (λ (r : is_row k ≡ false). inl (let l = ltb-false k coordinates_from r in omega arith))
      (cases_Bool (is_row k))

  -- where the linear rows have been tried, the equations are settled
  pub equations_settled : ((i : ℕ) → Contains d.labels i → IsRow i → (row_of rows i).linear ≡ true →
      IsSettled rows d i) →
      AreSettled d.key (table_of d) (equation_labels p)
  equations_settled tried i k c m n =
      ⊎_elim
      (λ (h : Contains d.key i).
      (own_row (prepare_space p) d.key is.dictionary.cobasis (table_of d) is.dictionary.writes i h).elsewhere k m
      (λ e. n (subst (Contains (equation_labels p)) (sym e) c)))
      (λ (h : Contains d.key i → ⊥).
      let q = equation_only p i c in
      let l = q.within in
      tried i (dict_label i (equation_in p few_in_file [] p.kind i q)) (omega (arith, few_in_file))
      (linear_equation i c) h k m
      (behind_equation i k c m n))
      (contains_or d.key i)

  -- ---- rows before one of them have been tried, and the free columns are left
  module _ (free : List ℕ) (columns : AreFreeColumns (cone_of p) free)
      (inside : (j : ℕ) → Contains free j → Contains d.key (coordinate_label j))
      (point : HasPointOn (prepare_space p) (equation_labels p)) (from : ℕ) (tried : IsEliminated rows Others from d)
    where
      pub can_enter : CanEnterMain p free d.key (table_of d)
      can_enter = record {
        columns = columns;
        free_inside = inside;
        settled = equations_settled (λ i c l e. tried.settled i c l (inl e));
        point = point;
      }

      pub enters : EntersMain p free d.key (table_of d)
      enters = main_dictionary p free d.key (table_of d) few_in_file is.dictionary can_enter

      abbrev pub main_key : List ℕ
      main_key = filter (stays p free) d.key

      abbrev labels : List ℕ
      labels = (main_space p free).labels

      abbrev fixed : List Vector
      fixed = map coordinate free ++ equations p

      pub rows_ascend : IsAscending (filter is_row labels)
      rows_ascend =
          ascending_filter is_row labels (ascending_filter (is_left rows) (cut_space p.kind p fixed).labels
          (subst IsAscending (sym (main_labels p.kind p fixed)) (cut_labels_ascend p.kind p few)))

      -- a row is left, and stays in the key, where it is not linear
      left_row : (i : ℕ) → Contains labels i → is_row i ≡ true →
          Contains (prepare_space p).labels i × ((row_of rows i).linear ≡ false)
      left_row i c r =
          let h = filter_only (is_left rows) (cut_space p.kind p fixed).labels i c in (
            subst (λ ks. Contains ks i) (main_labels p.kind p fixed) h.0,
            not-true (row_of rows i).linear (sym (cond-true (is_row i) (not (row_of rows i).linear) true r) ∙ h.1),
          )

      pub row_is_left : (i : ℕ) → Contains d.labels i → is_row i ≡ true → (row_of rows i).linear ≡ false →
          Contains labels i
      row_is_left i c r e =
          filter_kept (is_left rows) (cut_space p.kind p fixed).labels i
          (subst (λ ks. Contains ks i) (sym (main_labels p.kind p fixed)) (subst (λ ks. Contains ks i) is.labels c))
          (cond-true (is_row i) (not (row_of rows i).linear) true r ∙ not_from_false (row_of rows i).linear e)

      pub row_stays : (k : ℕ) → Contains d.key k → is_row k ≡ true → (row_of rows k).linear ≡ false →
          Contains main_key k
      row_stays k c r e =
          filter_kept (stays p free) d.key k c
          (cond-true (is_row k) (not (row_of rows k).linear) (not (is_member (coordinate_index k) free)) r
          ∙ not_from_false (row_of rows k).linear e)

      -- a coordinate stays where its column is not free
      pub coordinate_stays : (k : ℕ) → Contains d.key k → IsCoordinate k → (Contains free (coordinate_index k) → ⊥) →
          Contains main_key k
      coordinate_stays k c high n =
          filter_kept (stays p free) d.key k c
          (cond-false (is_row k) (not (row_of rows k).linear) (not (is_member (coordinate_index k) free)) (le-ltb k coordinates_from high)
          ∙ not_from_false (is_member (coordinate_index k) free)
          (false_from_ne_true (is_member (coordinate_index k) free) (λ e. n (member_only (coordinate_index k) free e))))

      -- a row that has been tried and is outside the key is 0 at the labels behind it
      pub main_settled : (i : ℕ) → Contains labels i → is_row i ≡ true → i < from → (Contains main_key i → ⊥) →
          (k : ℕ) → Contains d.key k → IsBehind rows i k → Table.entry (table_of d) i k ≡ pos 0
      main_settled i c r l n k m behind =
          let here = left_row i c r in
          tried.settled i (dict_label i here.0) (ltb-true i coordinates_from r) (inr l) (λ q. n (row_stays i q r here.1)) k m behind

  -- ---- all rows have been tried
  module _ (ascending : IsAscending d.key) (free : AreFreeColumns (cone_of p) (columns_in d.key))
      (point : HasPointOn (prepare_space p) (equation_labels p))
      (done : IsEliminated rows Others (length rows + 1) d) where
    abbrev columns : List ℕ
    columns = columns_in d.key

    abbrev main : EntersMain p columns d.key (table_of d)
    main = enters columns free (column_only d.key) point (length rows + 1) done

    abbrev key : List ℕ
    key = filter (stays p columns) d.key

    -- what stays is a row that is not linear
    stays_row : (k : ℕ) → Contains key k → Contains d.key k × (is_row k ≡ true) × ((row_of rows k).linear ≡ false)
    stays_row k c =
        let h = filter_only (stays p columns) d.key k c in
        ⊎_elim
        (λ (r : is_row k ≡ true). (
          h.0,
          r,
          not-true (row_of rows k).linear
              (sym (cond-true (is_row k) (not (row_of rows k).linear) (not (is_member (coordinate_index k) columns)) r) ∙ h.1),
        ))
        (λ (r : is_row k ≡ false).
        let free = member_has (coordinate_index k) columns (column_of_label d.key k h.0 r) in
        let gone = cond-false (is_row k) (not (row_of rows k).linear) (not (is_member (coordinate_index k) columns)) r
        ∙ not_from_true (is_member (coordinate_index k) columns) free in
        absurd (true≢false (sym h.1 ∙ gone)))
        (cases_Bool (is_row k))

    settled : (i : ℕ) → Contains (main_space p columns).labels i → is_row i ≡ true → (Contains key i → ⊥) →
        (k : ℕ) → Contains key k → i < k → Table.entry (table_of d) i k ≡ pos 0
    settled i c r n k m l =
        let there = stays_row k m in
        let within = row_within k (key_in_labels k there.0) (ltb-true k coordinates_from there.1) in
        main_settled columns free (column_only d.key) point (length rows + 1) done i c r (omega arith) n k there.0
        (inr (there.2, inr l))

    pub is_start_of_main : IsStartCobasis (main_space p columns) key
    is_start_of_main =
        is_start (main_space p columns) key (table_of d) main.cobasis main.writes settled
        (ascending_filter (stays p columns) d.key ascending)
        (λ k c. (All-contains (Contains (main_space p columns).labels) key k main.cobasis.labels c, (stays_row k c).1))
        (rows_ascend columns free (column_only d.key) point (length rows + 1) done)
