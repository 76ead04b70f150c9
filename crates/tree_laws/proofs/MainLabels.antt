-- The rows of the main space: the rows of its cone, or of the file, that are not linear; and its fixed rows.
use Rattle.std.proofs.Common.{◌≡◌, ℕ, suc, ◌+◌, ◌-◌, ◌≤◌, ◌<◌, Bool, true, false, cond, not, List, [], ◌∷◌, ◌++◌, pos, map, length, get_or, refl, sym, ap, subst, ◌∙◌, ⊎_elim, arith}
use Rattle.std.specs.Prelude.{◌≤ℤ◌}
use Rattle.std.specs.List.{Contains, filter, range_with_len, list_any}
use Rattle.std.proofs.lemmas.Bool.{lt-ltb, ltb-true, cond-true, not-true}
use Rattle.std.proofs.lemmas.List.Elements.{Contains-append_left, Contains-append_cases}
use Rattle.poly_num.specs.Vectors.{Vector, ◌·◌}
use Rattle.poly_model.specs.declared.kind.Kind.{Kind}
use Rattle.poly_model.specs.declared.kind.Kind.TheVariants.{H, V}
use Rattle.poly_model.specs.Systems.{Row, no_row, row_of, first_unit, Polyhedron, file_rows, cone_of, added_row, is_point_row}
use Rattle.poly_model.specs.Cones.{coordinate, Meets, IsTight}
use Rattle.poly_model.specs.Spaces.{Space, is_left, label_form, labels_of, linear_rows, cut_space}
use Rattle.poly_model.specs.Labels.{coordinate_label, is_row, coordinate_index, IsRow}
use Rattle.cone_laws.specs.Faces.{fixed_rows}
use Rattle.poly_model.proofs.RowLemmas.{row_from_one}
use Rattle.dictionary_laws.proofs.Filters.{filter_only, filter_kept, range_only, range_has, map_only}

-- ---- the fixed rows
linear-append : (rows more : List Row) → linear_rows (rows ++ more) ≡ linear_rows rows ++ linear_rows more
linear-append [] more = refl
linear-append (row ∷ rows) more = by row.linear (linear-append rows more)
  where
    by : (b : Bool) → linear_rows (rows ++ more) ≡ linear_rows rows ++ linear_rows more →
        cond b (row.entries ∷ linear_rows (rows ++ more)) (linear_rows (rows ++ more))
        ≡ cond b (row.entries ∷ linear_rows rows) (linear_rows rows) ++ linear_rows more
    by true e = ap (λ gs. row.entries ∷ gs) e
    by false e = e

linear_added : (kind : Kind) (n : ℕ) (rows : List Row) → linear_rows (added_row kind n rows) ≡ []
linear_added H n rows = refl
linear_added V n rows = by (list_any is_point_row rows)
  where
    by : (b : Bool) →
        linear_rows (cond b [] (record { entries = first_unit n; linear = false; point = true } ∷ [])) ≡ []
    by true = refl
    by false = refl

-- those of the main space are those of the cone
pub same_fixed : (p : Polyhedron) (free : List ℕ) →
    fixed_rows free (cone_of p) ≡ map coordinate free ++ linear_rows (file_rows p)
same_fixed p free =
    ap (λ gs. map coordinate free ++ gs)
    (linear-append (file_rows p) (added_row p.kind p.n (file_rows p))
    ∙ ap (λ gs. linear_rows (file_rows p) ++ gs) (linear_added p.kind p.n (file_rows p))
    ∙ append_nil (linear_rows (file_rows p)))
  where
    append_nil : (gs : List Vector) → gs ++ [] ≡ gs
    append_nil [] = refl
    append_nil (g ∷ gs) = ap (λ hs. g ∷ hs) (append_nil gs)

-- ---- the rows
-- row i of a list of rows, which is not linear
pub record IsOther (rows : List Row) (i : ℕ) : Type 0 where
  pub some : 1 ≤ i
  pub within : i < 1 + length rows
  pub other : (row_of rows i).linear ≡ false

-- the labels of so many rows, and of coordinates, that are left of a cone: rows
abbrev pub left_rows : List Row → ℕ → ℕ → ℕ → List ℕ
left_rows cone m j n = filter is_row (filter (is_left cone) (labels_of m j n))

-- all rows of the list stand in the cone at their places
module _ (rows cone : List Row)
    (same : (m : ℕ) → m < length rows → get_or cone m no_row ≡ get_or rows m no_row)
    (few : IsRow (length rows)) (j n : ℕ) where
  same_row : (i : ℕ) → 1 ≤ i → i < 1 + length rows → row_of cone i ≡ row_of rows i
  same_row i l h = row_from_one cone i l ∙ same (i - 1) (omega arith) ∙ sym (row_from_one rows i l)

  row_number : (i : ℕ) → Contains (labels_of (length rows) j n) i → is_row i ≡ true →
      (1 ≤ i) × (i < 1 + length rows)
  row_number i c e =
      ⊎_elim
      (λ (d : Contains (range_with_len 1 (length rows)) i). range_only 1 (length rows) i d)
      (λ (d : Contains (map coordinate_label (range_with_len j (n - j))) i).
      let h = map_only coordinate_label (range_with_len j (n - j)) i d in
      let f : i ≡ coordinate_label h.0 = h.2 in
      let l = ltb-true i _ e in
      absurd (omega arith))
      (Contains-append_cases (range_with_len 1 (length rows)) (map coordinate_label (range_with_len j (n - j))) i c)

  pub other_only : (i : ℕ) → Contains (left_rows cone (length rows) j n) i → IsOther rows i
  other_only i c =
      let h = filter_only is_row (filter (is_left cone) (labels_of (length rows) j n)) i c in
      let k = filter_only (is_left cone) (labels_of (length rows) j n) i h.0 in
      let w = row_number i k.0 h.1 in
      record {
        some = w.0;
        within = w.1;
        other = ap (λ (row : Row). row.linear) (sym (same_row i w.0 w.1))
            ∙ not-true (row_of cone i).linear
            (sym (cond-true (is_row i) (not (row_of cone i).linear) true h.1) ∙ k.1);
      }

  pub other_has : (i : ℕ) → IsOther rows i → Contains (left_rows cone (length rows) j n) i
  other_has i o =
      filter_kept is_row (filter (is_left cone) (labels_of (length rows) j n)) i
      (filter_kept (is_left cone) (labels_of (length rows) j n) i
      (Contains-append_left (range_with_len 1 (length rows)) (map coordinate_label (range_with_len j (n - j))) i
      (range_has 1 (length rows) i o.some o.within))
      (cond-true (is_row i) (not (row_of cone i).linear) true row
      ∙ ap not (ap (λ (row : Row). row.linear) (same_row i o.some o.within) ∙ o.other)))
      row
    where
      row : is_row i ≡ true
      row = let l = o.some in let h = o.within in lt-ltb i _ (omega arith)

  pub other_form : (i : ℕ) → IsOther rows i → label_form rows i ≡ (row_of rows i).entries
  other_form i o =
      let l = o.within in
      cond-true (is_row i) (row_of rows i).entries (coordinate (coordinate_index i))
      (lt-ltb i _ (omega arith))

  -- a fact of the forms of these labels is one of the entries of the rows that are not linear
  module _ (P : Vector → Type 0) where
    pub rows_from_forms : ((i : ℕ) → Contains (left_rows cone (length rows) j n) i → P (label_form rows i)) →
        (m : ℕ) → m < length rows → (get_or rows m no_row).linear ≡ false → P (get_or rows m no_row).entries
    rows_from_forms h m l e =
        subst P (other_form (suc m) o) (h (suc m) (other_has (suc m) o))
      where
        o : IsOther rows (suc m)
        o = record {
          some = omega arith;
          within = omega (arith, l);
          other = e;
        }

    pub forms_from_rows : ((m : ℕ) → m < length rows → (get_or rows m no_row).linear ≡ false →
        P (get_or rows m no_row).entries) → (i : ℕ) → Contains (left_rows cone (length rows) j n) i →
        P (label_form rows i)
    forms_from_rows h i c =
        let o = other_only i c in
        let l = o.some in
        let k = o.within in
        let here = row_from_one rows i l in
        subst P (sym (other_form i o))
        (subst (λ (row : Row). P row.entries) (sym here)
        (h (i - 1) (omega arith) (ap (λ (row : Row). row.linear) (sym here) ∙ o.other)))

-- ---- the space, and its rows at a vector
-- the main space of a polyhedron of this kind
abbrev pub main_in : Kind → Polyhedron → List ℕ → Space
main_in kind p free =
    let space = cut_space kind p (map coordinate free ++ linear_rows (file_rows p)) in
    record space { labels = filter (is_left (cone_of p).rows) space.labels }

-- a vector meets a row that is linear, or is not
pub meets_linear : (y : Vector) (row : Row) → row.linear ≡ true → IsTight y row → Meets y row
meets_linear y row e t = subst (λ b. cond b (row.entries · y ≡ pos 0) (pos 0 ≤ℤ (row.entries · y))) (sym e) t

pub meets_other : (y : Vector) (row : Row) → row.linear ≡ false → pos 0 ≤ℤ (row.entries · y) → Meets y row
meets_other y row e l = subst (λ b. cond b (row.entries · y ≡ pos 0) (pos 0 ≤ℤ (row.entries · y))) (sym e) l

pub met_other : (y : Vector) (row : Row) → row.linear ≡ false → Meets y row → pos 0 ≤ℤ (row.entries · y)
met_other y row e m = subst (λ b. cond b (row.entries · y ≡ pos 0) (pos 0 ≤ℤ (row.entries · y))) e m
