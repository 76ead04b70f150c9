-- The linear rows of a file: their labels, their entries, and where they stand in the cone.
use Rattle.std.proofs.Common.{◌≡◌, ℕ, zero, suc, ◌+◌, ◌-◌, ◌≤◌, ◌<◌, Bool, true, false, cond, List, [], ◌∷◌, ◌++◌, map, length, get_or, refl, sym, ap, subst, ◌∙◌, ⊎_elim, arith}
use Rattle.std.specs.List.{AllByRecursion, Contains, range_with_len, list_any}
use Rattle.std.proofs.lemmas.Bool.{lt-ltb, cond-true}
use Rattle.std.proofs.lemmas.List.{get_or_append_left}
use Rattle.std.proofs.lemmas.List.Elements.{Contains-append_left, Contains-append_right, Contains-append_cases}
use Rattle.poly_num.specs.Vectors.{Vector}
use Rattle.poly_model.specs.declared.kind.Kind.{Kind}
use Rattle.poly_model.specs.declared.kind.Kind.TheVariants.{H, V}
use Rattle.poly_model.specs.Systems.{Row, no_row, row_of, first_unit, Polyhedron, file_rows, cone_of, added_row, is_point_row}
use Rattle.poly_model.specs.Cones.{coordinate}
use Rattle.poly_model.specs.Spaces.{label_form, linear_rows}
use Rattle.poly_model.specs.Labels.{coordinate_label, is_row, coordinate_index, IsRow}
use Rattle.linear_laws.proofs.AllLemmas.{all_left, all_right, all_both, all_from_map, all_to_map}
use Rattle.linear_laws.proofs.Members.{all_at}
use Rattle.poly_model.specs.Equations.{equation_labels}
use Rattle.poly_model.proofs.RowLemmas.{row_from_one}
use Rattle.dictionary_laws.proofs.Members.{all_from}
use Rattle.dictionary_laws.proofs.Filters.{filter_only, filter_kept, range_only, range_has, map_only, map_has}
use Rattle.dictionary_laws.proofs.CoordinateSpaces.{coordinate_form}

-- ---- linear rows of a list
pub linear_from_each : (P : Vector → Type 0) (rows : List Row) →
    ((m : ℕ) → m < length rows → (get_or rows m no_row).linear ≡ true → P (get_or rows m no_row).entries) →
    AllByRecursion P (linear_rows rows)
linear_from_each P [] h = tt
linear_from_each P (row ∷ rows) h =
    by row.linear (h 0 (omega arith)) (linear_from_each P rows (λ m l. h (suc m) (omega (arith, l))))
  where
    by : (b : Bool) → (b ≡ true → P row.entries) → AllByRecursion P (linear_rows rows) →
        AllByRecursion P (cond b (row.entries ∷ linear_rows rows) (linear_rows rows))
    by true p rest = (p refl, rest)
    by false p rest = rest

pub each_from_linear : (P : Vector → Type 0) (rows : List Row) → AllByRecursion P (linear_rows rows) →
    (m : ℕ) → (get_or rows m no_row).linear ≡ true → P (get_or rows m no_row).entries
each_from_linear P [] h m e = absurd cc
each_from_linear P (row ∷ rows) h zero e = by row.linear e h
  where
    by : (b : Bool) → b ≡ true →
        AllByRecursion P (cond b (row.entries ∷ linear_rows rows) (linear_rows rows)) → P row.entries
    by true s g = g.0
    by false s g = absurd cc
each_from_linear P (row ∷ rows) h (suc m) e = each_from_linear P rows (by row.linear h) m e
  where
    by : (b : Bool) → AllByRecursion P (cond b (row.entries ∷ linear_rows rows) (linear_rows rows)) →
        AllByRecursion P (linear_rows rows)
    by true g = g.1
    by false g = g

-- ---- rows of a file and of its cone
none_linear : (rows : List Row) → AllByRecursion (λ (row : Row). row.linear ≡ false) rows → (m : ℕ) →
    (get_or rows m no_row).linear ≡ true → ⊥
none_linear [] h m e = cc
none_linear (row ∷ rows) h zero e = let f = h.0 in cc
none_linear (row ∷ rows) h (suc m) e = none_linear rows h.1 m e

linear_in_front : (rows more : List Row) → AllByRecursion (λ (row : Row). row.linear ≡ false) more → (m : ℕ) →
    (get_or (rows ++ more) m no_row).linear ≡ true → m < length rows
linear_in_front [] more h m e = absurd (none_linear more h m e)
linear_in_front (row ∷ rows) more h zero e = omega arith
linear_in_front (row ∷ rows) more h (suc m) e = omega (arith, linear_in_front rows more h m e)

added_not_linear : (kind : Kind) (n : ℕ) (rows : List Row) →
    AllByRecursion (λ (row : Row). row.linear ≡ false) (added_row kind n rows)
added_not_linear H n rows = (refl, tt)
added_not_linear V n rows = by (list_any is_point_row rows)
  where
    by : (b : Bool) → AllByRecursion (λ (row : Row). row.linear ≡ false)
        (cond b [] (record { entries = first_unit n; linear = false; point = true } ∷ []))
    by true = tt
    by false = (refl, tt)

module _ (p : Polyhedron) where
  -- a row of the file stands at its place in the cone
  pub same_in_cone : (m : ℕ) → m < length (file_rows p) →
      get_or (cone_of p).rows m no_row ≡ get_or (file_rows p) m no_row
  same_in_cone m l =
      get_or_append_left (file_rows p) (added_row p.kind p.n (file_rows p)) no_row m l

  -- a row of the file is the row of the cone with the same number
  pub row_in_cone : (i : ℕ) → 0 < i → i ≤ length (file_rows p) → row_of (cone_of p).rows i ≡ row_of (file_rows p) i
  row_in_cone i some within =
      row_from_one (cone_of p).rows i some ∙ same_in_cone (i - 1) (omega arith)
      ∙ sym (row_from_one (file_rows p) i some)

  -- a linear row of the cone is one of the file
  pub linear_in_file : (m : ℕ) → (get_or (cone_of p).rows m no_row).linear ≡ true →
      m < length (file_rows p)
  linear_in_file =
      linear_in_front (file_rows p) (added_row p.kind p.n (file_rows p))
      (added_not_linear p.kind p.n (file_rows p))

  -- ---- equations
  pub record IsEquation (i : ℕ) : Type 0 where
    pub some : 1 ≤ i
    pub within : i < 1 + length (file_rows p)
    pub linear : (row_of (file_rows p) i).linear ≡ true

  pub equation_only : (i : ℕ) → Contains (equation_labels p) i → IsEquation i
  equation_only i c =
      let h = filter_only (λ k. (row_of (file_rows p) k).linear) (range_with_len 1 (length (file_rows p))) i c in
      let l = range_only 1 (length (file_rows p)) i h.0 in
      record { some = l.0; within = l.1; linear = h.1 }

  pub equation_has : (i : ℕ) → IsEquation i → Contains (equation_labels p) i
  equation_has i e =
      filter_kept (λ k. (row_of (file_rows p) k).linear) (range_with_len 1 (length (file_rows p))) i
      (range_has 1 (length (file_rows p)) i e.some e.within) e.linear

  -- the labels that are 0 in the main space
  abbrev pub gone : List ℕ → List ℕ
  gone free = map coordinate_label free ++ equation_labels p

  -- its fixed rows
  abbrev pub fixed_rows : List ℕ → List Vector
  fixed_rows free = map coordinate free ++ linear_rows (file_rows p)

  module _ (few : IsRow (length (file_rows p))) (free : List ℕ) (rows : List Row)
      (same : (m : ℕ) → m < length (file_rows p) → get_or rows m no_row ≡ get_or (file_rows p) m no_row) where
    equation_form : (i : ℕ) → IsEquation i → label_form rows i ≡ (row_of (file_rows p) i).entries
    equation_form i e =
        let l = e.some in
        let m = e.within in
        cond-true (is_row i) (row_of rows i).entries (coordinate (coordinate_index i))
        (lt-ltb i _ (omega arith))
        ∙ ap (λ (row : Row). row.entries) (row_from_one rows i l ∙ same (i - 1) (omega arith)
        ∙ sym (row_from_one (file_rows p) i l))

    -- a fact of the fixed rows is one of the forms of these labels
    pub gone_from_fixed : (P : Vector → Type 0) → AllByRecursion P (fixed_rows free) →
        (i : ℕ) → Contains (gone free) i → P (label_form rows i)
    gone_from_fixed P h i c =
        ⊎_elim
        (λ (d : Contains (map coordinate_label free) i).
        let j = map_only coordinate_label free i d in
        subst (λ (k : ℕ). P (label_form rows k)) (sym j.2)
        (subst P (sym (coordinate_form rows j.0))
        (all_at (λ k. P (coordinate k)) free
        (all_from_map P coordinate free (all_left P (map coordinate free) (linear_rows (file_rows p)) h))
        j.0 j.1)))
        (λ (d : Contains (equation_labels p) i).
        let e = equation_only i d in
        let here = row_from_one (file_rows p) i e.some in
        subst P (sym (equation_form i e))
        (subst (λ (row : Row). P row.entries) (sym here)
        (each_from_linear P (file_rows p)
        (all_right P (map coordinate free) (linear_rows (file_rows p)) h) (i - 1)
        (ap (λ (row : Row). row.linear) (sym here) ∙ e.linear))))
        (Contains-append_cases (map coordinate_label free) (equation_labels p) i c)

    pub fixed_from_gone : (P : Vector → Type 0) →
        ((i : ℕ) → Contains (gone free) i → P (label_form rows i)) → AllByRecursion P (fixed_rows free)
    fixed_from_gone P h =
        all_both P (map coordinate free) (linear_rows (file_rows p))
        (all_to_map P coordinate free (all_from (λ j. P (coordinate j)) free (λ j c.
        subst P (coordinate_form rows j)
        (h (coordinate_label j)
        (Contains-append_left (map coordinate_label free) (equation_labels p) (coordinate_label j)
        (map_has coordinate_label free j c))))))
        (linear_from_each P (file_rows p) (λ m l e. row_after m l e))
      where
        row_after : (m : ℕ) → m < length (file_rows p) → (get_or (file_rows p) m no_row).linear ≡ true →
            P (get_or (file_rows p) m no_row).entries
        row_after m l e =
            let q : IsEquation (suc m) = record {
              some = omega arith;
              within = omega (arith, l);
              linear = e;
            } in
            subst P (equation_form (suc m) q)
            (h (suc m)
            (Contains-append_right (map coordinate_label free) (equation_labels p) (suc m)
            (equation_has (suc m) q)))
