-- The main space, entered from a dictionary of the file's rows: that dictionary's space, cut by the
-- free coordinates and the equations.
use Rattle.std.proofs.Common.{◌≡◌, ℕ, ◌+◌, ◌-◌, ◌≤◌, ◌<◌, true, false, List, [], pos, map, length, refl, sym, ap, subst, ◌∙◌, ⊎_elim, length-append, arith}
use Rattle.std.specs.Prelude.{not}
use Rattle.std.specs.List.{Contains, filter, range_with_len}
use Rattle.std.proofs.lemmas.Bool.{lt-ltb, le-ltb, ltb-false, cond-true, cond-false, cases_Bool, not-false, not_from_true}
use Rattle.std.proofs.lemmas.List.Elements.{Contains-append_left, Contains-append_right, Contains-append_cases}
use Rattle.poly_num.specs.Vectors.{Vector, ◌·◌}
use Rattle.poly_model.specs.declared.kind.Kind.{Kind}
use Rattle.poly_model.specs.declared.kind.Kind.TheVariants.{H, V}
use Rattle.poly_model.specs.Systems.{Row, row_of, Polyhedron, file_rows, added_row, cone_of}
use Rattle.poly_model.specs.Spaces.{Space, IsInside, HasPoints, is_left, is_member, labels_of, in_front, cut_space, prepare_space, main_space}
use Rattle.poly_model.specs.Labels.{coordinate_label, is_row, coordinate_index, IsRow}
use Rattle.poly_model.specs.Dictionaries.{Table, IsCobasis, Writes, IsDictionary}
use Rattle.linear_laws.proofs.AllLemmas.{all_from_map, all_to_map}
use Rattle.poly_model.proofs.RowLemmas.{row_from_one}
use Rattle.dictionary_laws.specs.Numbers.{IsOwnRow}
use Rattle.poly_model.specs.Equations.{HasPointOn}
use Rattle.dictionary_laws.specs.Points.{AreSettled}
use Rattle.poly_model.specs.Equations.{equation_labels}
use Rattle.dictionary_laws.specs.MainSpace.{stays, CanEnterMain, EntersMain}
use Rattle.dictionary_laws.proofs.Filters.{filter_only, filter_kept, range_only, range_has, map_only, map_has, member_only, member_has}
use Rattle.dictionary_laws.proofs.Values.{is_label, own_row}
use Rattle.dictionary_laws.proofs.Origins.{some_origin}
use Rattle.dictionary_laws.proofs.Equations.{constants_where_point, point_where_constants}
use Rattle.dictionary_laws.proofs.SettledCuts.{cut, IsCutBy, Parts, points_of_cut, writes_of_cut, cobasis_of_cut}
use Rattle.dictionary_laws.proofs.MainRows.{same_in_cone, linear_in_file, IsEquation, equation_only, equation_has, gone, fixed_rows, gone_from_fixed, fixed_from_gone}

label_is_positive : (m j n k : ℕ) → Contains (labels_of m j n) k → 1 ≤ k
label_is_positive m j n k c =
    ⊎_elim
    (λ (d : Contains (range_with_len 1 m) k). (range_only 1 m k d).0)
    (λ (d : Contains (map coordinate_label (range_with_len j (n - j))) k).
    let h = map_only coordinate_label (range_with_len j (n - j)) k d in
    let e : k ≡ coordinate_label h.0 = h.2 in omega arith)
    (Contains-append_cases (range_with_len 1 m) (map coordinate_label (range_with_len j (n - j))) k c)

row_is_label : (m j n k : ℕ) → 1 ≤ k → k < 1 + m → Contains (labels_of m j n) k
row_is_label m j n k l r =
    Contains-append_left (range_with_len 1 m) (map coordinate_label (range_with_len j (n - j))) k
    (range_has 1 m k l r)

module _ (p : Polyhedron) (few : IsRow (length (file_rows p))) (free : List ℕ) where
  -- ---- the test of labels
  row_stays : (k : ℕ) → is_row k ≡ true → stays p free k ≡ not (row_of (cone_of p).rows k).linear
  row_stays k =
      cond-true (is_row k) (not (row_of (cone_of p).rows k).linear) (not (is_member (coordinate_index k) free))

  coordinate_stays : (k : ℕ) → is_row k ≡ false → stays p free k ≡ not (is_member (coordinate_index k) free)
  coordinate_stays k =
      cond-false (is_row k) (not (row_of (cone_of p).rows k).linear) (not (is_member (coordinate_index k) free))

  left_if_stays : (k : ℕ) → stays p free k ≡ true → is_left (cone_of p).rows k ≡ true
  left_if_stays k e =
      ⊎_elim
      (λ (b : is_row k ≡ true). cond-true (is_row k) (not (row_of (cone_of p).rows k).linear) true b
      ∙ sym (row_stays k b) ∙ e)
      (λ (b : is_row k ≡ false). cond-false (is_row k) (not (row_of (cone_of p).rows k).linear) true b)
      (cases_Bool (is_row k))

  gone_if_not : (k : ℕ) → 1 ≤ k → stays p free k ≡ false → Contains (gone p free) k
  gone_if_not k positive e = ⊎_elim of_row of_coordinate (cases_Bool (is_row k))
    where
      of_row : is_row k ≡ true → Contains (gone p free) k
      of_row b =
          let linear = not-false (row_of (cone_of p).rows k).linear (sym (row_stays k b) ∙ e) in
          let here = row_from_one (cone_of p).rows k positive in
          let within = linear_in_file p (k - 1) (ap (λ (row : Row). row.linear) (sym here) ∙ linear) in
          Contains-append_right (map coordinate_label free) (equation_labels p) k
          (equation_has p k (record {
            some = positive;
            within = omega (arith, within);
            linear = ap (λ (row : Row). row.linear)
                (row_from_one (file_rows p) k positive ∙ sym (same_in_cone p (k - 1) within) ∙ sym here) ∙ linear;
          }))

      of_coordinate : is_row k ≡ false → Contains (gone p free) k
      of_coordinate b =
          let member = not-false (is_member (coordinate_index k) free) (sym (coordinate_stays k b) ∙ e) in
          let l = ltb-false k _ b in
          let there : coordinate_label (coordinate_index k) ≡ k = omega arith in
          Contains-append_left (map coordinate_label free) (equation_labels p) k
          (subst (λ (i : ℕ). Contains (map coordinate_label free) i) there
          (map_has coordinate_label free (coordinate_index k) (member_only (coordinate_index k) free member)))

  not_gone_if : (k : ℕ) → stays p free k ≡ true → Contains (gone p free) k → ⊥
  not_gone_if k e c =
      ⊎_elim of_coordinate of_row
      (Contains-append_cases (map coordinate_label free) (equation_labels p) k c)
    where
      of_coordinate : Contains (map coordinate_label free) k → ⊥
      of_coordinate d =
          let h = map_only coordinate_label free k d in
          let i : k ≡ coordinate_label h.0 = h.2 in
          let j : h.0 ≡ coordinate_index k = omega arith in
          let member = member_has (coordinate_index k) free (subst (λ (m : ℕ). Contains free m) j h.1) in
          let f : true ≡ false = sym e ∙ coordinate_stays k (le-ltb k _ (omega arith))
          ∙ not_from_true (is_member (coordinate_index k) free) member in
          cc

      of_row : Contains (equation_labels p) k → ⊥
      of_row d =
          let q = equation_only p k d in
          let l = q.some in
          let r = q.within in
          let linear = ap (λ (row : Row). row.linear)
          (row_from_one (cone_of p).rows k l ∙ same_in_cone p (k - 1) (omega arith)
          ∙ sym (row_from_one (file_rows p) k l)) ∙ q.linear in
          let f : true ≡ false = sym e ∙ row_stays k (lt-ltb k _ (omega arith))
          ∙ not_from_true (row_of (cone_of p).rows k).linear linear in
          cc

  -- ---- the main space of either kind as a cut
  abbrev fixed_in : Kind → List Vector
  fixed_in H = fixed_rows p free
  fixed_in V = map in_front (fixed_rows p free)

  abbrev labels_in : Kind → List ℕ
  labels_in kind = filter (is_left (cone_of p).rows) (cut_space kind p []).labels

  abbrev main_in : Kind → Space
  main_in kind = cut (cut_space kind p []) (fixed_in kind) (labels_in kind)

  main_is : (kind : Kind) →
      main_in kind
      ≡ (let space = cut_space kind p (fixed_rows p free) in
      record space { labels = filter (is_left (cone_of p).rows) space.labels })
  main_is H = refl
  main_is V = refl

  positive_in : (kind : Kind) (k : ℕ) → Contains (cut_space kind p []).labels k → 1 ≤ k
  positive_in H k c = label_is_positive (length (file_rows p)) 1 p.n k c
  positive_in V k c = label_is_positive (length (cone_of p).rows) 0 p.n k c

  pub equation_in : (kind : Kind) (k : ℕ) → IsEquation p k → Contains (cut_space kind p []).labels k
  equation_in H k q =
      let r = q.within in
      row_is_label (length (file_rows p)) 1 p.n k q.some (omega arith)
  equation_in V k q =
      let r = q.within in
      row_is_label (length (cone_of p).rows) 0 p.n k q.some
      (omega (arith, length-append (file_rows p) (added_row p.kind p.n (file_rows p))))

  module _ (kind : Kind)
      (free_labels : (j : ℕ) → Contains free j → Contains (cut_space kind p []).labels (coordinate_label j)) where
    gone_in : (i : ℕ) → Contains (gone p free) i → Contains (cut_space kind p []).labels i
    gone_in i c =
        ⊎_elim
        (λ (d : Contains (map coordinate_label free) i).
        let h = map_only coordinate_label free i d in
        subst (λ (k : ℕ). Contains (cut_space kind p []).labels k) (sym h.2) (free_labels h.0 h.1))
        (λ (d : Contains (equation_labels p) i). equation_in kind i (equation_only p i d))
        (Contains-append_cases (map coordinate_label free) (equation_labels p) i c)

    old_in : (i : ℕ) → Contains (labels_in kind) i → Contains (cut_space kind p []).labels i
    old_in i c = (filter_only (is_left (cone_of p).rows) (cut_space kind p []).labels i c).0

  cut_in : (kind : Kind) →
      ((j : ℕ) → Contains free j → Contains (cut_space kind p []).labels (coordinate_label j)) →
      IsCutBy (cut_space kind p []) (fixed_in kind) (labels_in kind) (gone p free)
  cut_in H free_labels = record {
    inside = λ y h. record { width = IsInside.width h; fixed = tt };
    zero = λ y h. gone_from_fixed p few free (file_rows p) (λ m l. refl) (λ g. g · y ≡ pos 0) (IsInside.fixed h);
    enough = λ y h z. record {
      width = IsInside.width h;
      fixed = fixed_from_gone p few free (file_rows p) (λ m l. refl) (λ g. g · y ≡ pos 0) z;
    };
    gone_labels = gone_in H free_labels;
    old_labels = old_in H free_labels;
  }
  cut_in V free_labels = record {
    inside = λ y h. record { width = IsInside.width h; fixed = tt };
    zero = λ y h. gone_from_fixed p few free (cone_of p).rows (same_in_cone p)
        (λ g. in_front g · y ≡ pos 0)
        (all_from_map (λ g. g · y ≡ pos 0) in_front (fixed_rows p free) (IsInside.fixed h));
    enough = λ y h z. record {
      width = IsInside.width h;
      fixed = all_to_map (λ g. g · y ≡ pos 0) in_front (fixed_rows p free)
          (fixed_from_gone p few free (cone_of p).rows (same_in_cone p) (λ g. in_front g · y ≡ pos 0) z);
    };
    gone_labels = gone_in V free_labels;
    old_labels = old_in V free_labels;
  }

  parts_in : (kind : Kind) (key : List ℕ) →
      ((k : ℕ) → Contains key k → Contains (cut_space kind p []).labels k) →
      Parts (cut_space kind p []) (fixed_in kind) (labels_in kind) key (gone p free) (stays p free)
  parts_in kind key labels = record {
    leaves = λ k c e. gone_if_not k (positive_in kind k (labels k c)) e;
    remains = λ k c e. not_gone_if k e;
    label = λ k c e. filter_kept (is_left (cone_of p).rows) (cut_space kind p []).labels k (labels k c)
        (left_if_stays k e);
  }

  -- ---- what is gone is settled, and has a point
  module _ (space : Space) (key : List ℕ) (t : Table) (cobasis : IsCobasis space key) (w : Writes space key t)
      (free_inside : (j : ℕ) → Contains free j → Contains key (coordinate_label j))
      (settled : AreSettled key t (equation_labels p)) where
    gone_by : (P : ℕ → Type 0) → ((k : ℕ) → Contains key k → Contains (gone p free) k → P k) →
        ((i : ℕ) → Contains (equation_labels p) i → P i) → (i : ℕ) → Contains (gone p free) i → P i
    gone_by P f g i c =
        ⊎_elim
        (λ (d : Contains (map coordinate_label free) i).
        let h = map_only coordinate_label free i d in
        f i (subst (λ (k : ℕ). Contains key k) (sym h.2) (free_inside h.0 h.1)) c)
        (g i)
        (Contains-append_cases (map coordinate_label free) (equation_labels p) i c)

    gone_settled : AreSettled key t (gone p free)
    gone_settled i k c m n =
        gone_by (λ j. t.entry j k ≡ pos 0)
        (λ j h d. IsOwnRow.elsewhere (own_row space key cobasis t w j h) k m
        (λ e. n (subst (λ (l : ℕ). Contains (gone p free) l) (sym e) d)))
        (λ j d. settled j k d m
        (λ e. n (Contains-append_right (map coordinate_label free) (equation_labels p) k e)))
        i c

    gone_has_point : ((i : ℕ) → Contains (gone p free) i → Contains space.labels i) →
        HasPointOn space (equation_labels p) → HasPointOn space (gone p free)
    gone_has_point labels point =
        point_where_constants space key (gone p free) t w labels (some_origin space key points cobasis)
        (gone_by (λ j. t.constant j ≡ pos 0)
        (λ j h d. IsOwnRow.constant (own_row space key cobasis t w j h) points)
        (constants_where_point space key (equation_labels p) t w
        (λ i c. labels i (Contains-append_right (map coordinate_label free) (equation_labels p) i c))
        settled point))
      where
        points : HasPoints space
        points = record { vector = point.vector; inside = point.inside; finite = point.finite }

pub main_dictionary : (p : Polyhedron) (free key : List ℕ) (t : Table) → IsRow (length (file_rows p)) →
    IsDictionary (prepare_space p) key t → CanEnterMain p free key t → EntersMain p free key t
main_dictionary p free key t few d can = record {
  points = subst HasPoints same
      (points_of_cut (prepare_space p) (fixed_in p few free p.kind) (labels_in p few free p.kind) (gone p free) c
      (gone_has_point p few free (prepare_space p) key t d.cobasis d.writes can.free_inside can.settled
      c.gone_labels can.point));
  cobasis = subst (λ (space : Space). IsCobasis space (filter (stays p free) key)) same
      (cobasis_of_cut (prepare_space p) (fixed_in p few free p.kind) (labels_in p few free p.kind) key
      (gone p free) (stays p free) t d.cobasis d.writes c parts
      (gone_settled p few free (prepare_space p) key t d.cobasis d.writes can.free_inside can.settled));
  writes = subst (λ (space : Space). Writes space (filter (stays p free) key) t) same
      (writes_of_cut (prepare_space p) (fixed_in p few free p.kind) (labels_in p few free p.kind) key
      (gone p free) (stays p free) t d.cobasis d.writes c parts);
}
  where
    same : main_in p few free p.kind ≡ main_space p free
    same = main_is p few free p.kind

    labels : (k : ℕ) → Contains key k → Contains (prepare_space p).labels k
    labels = is_label (prepare_space p) key d.cobasis

    c : IsCutBy (prepare_space p) (fixed_in p few free p.kind) (labels_in p few free p.kind) (gone p free)
    c = cut_in p few free p.kind (λ j i. labels (coordinate_label j) (can.free_inside j i))

    parts : Parts (prepare_space p) (fixed_in p few free p.kind) (labels_in p few free p.kind) key
        (gone p free) (stays p free)
    parts = parts_in p few free p.kind key labels
