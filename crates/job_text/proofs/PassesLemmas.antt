-- An overflow that is one of a file's has a text: the labels of the spaces of all phases have one.
use Rattle.std.proofs.Common.{◌≡◌, ◌⊎◌, inl, inr, ⊎_elim, ℕ, ◌-◌, ◌≤◌, List, [], ◌++◌, map, length, length-append, sym, subst, arith}
use Rattle.std.specs.List.{Contains, range_with_len}
use Rattle.std.proofs.lemmas.List.Elements.{All-contains, Contains-append_cases}
use Rattle.poly_num.specs.Vectors.{Vector}
use Rattle.poly_model.specs.declared.kind.Kind.{Kind}
use Rattle.poly_model.specs.declared.kind.Kind.TheVariants.{H, V}
use Rattle.poly_model.specs.declared.overflow.Overflow.{Overflow}
use Rattle.poly_model.specs.declared.overflow.Place.{Place}
use Rattle.poly_model.specs.declared.overflow.Phase.{Phase}
use Rattle.poly_model.specs.declared.overflow.Phase.TheVariants.{Cone, Prepare, Main, First}
use Rattle.poly_model.specs.Cones.{coordinate}
use Rattle.poly_model.specs.Keys.{IsKey}
use Rattle.poly_model.specs.Labels.{constant_label, coordinate_label, IsRow}
use Rattle.poly_model.specs.Limits.{most_columns}
use Rattle.poly_model.specs.Overflows.{IsPlace, IsInner, IsOuter, Passes}
use Rattle.poly_model.specs.Spaces.{Space, IsSpaceOf, is_left, labels_of, cut_space, equations, main_space, phase_rows}
use Rattle.poly_model.specs.Systems.{Polyhedron, file_rows, added_row, cone_of}
use Rattle.dictionary_laws.proofs.Filters.{filter_only, map_only, range_only}
use Rattle.dictionary_laws.proofs.Members.{by_cases, all_from}
use Rattle.job_text.specs.KeyTexts.{IsKeyLabel, IsPlaceLabel, HasKeyText}
use Rattle.job_text.specs.Overflows.{HasPlaceText, HasOverflowText}

-- ---- labels
labels_fit : (m first n k : ℕ) → IsRow m → n ≤ most_columns → Contains (labels_of m first n) k → IsKeyLabel k
labels_fit m first n k few narrow c =
    ⊎_elim
    (λ (d : Contains (range_with_len 1 m) k). let r = (range_only 1 m k d).1 in omega (arith, few))
    (λ (d : Contains (map coordinate_label (range_with_len first (n - first))) k).
    let h = map_only coordinate_label (range_with_len first (n - first)) k d in
    let r = (range_only first (n - first) h.0 h.1).1 in
    let l = (range_only first (n - first) h.0 h.1).0 in
    let e : k ≡ coordinate_label h.0 = h.2 in
    omega (arith, narrow))
    (Contains-append_cases (range_with_len 1 m) (map coordinate_label (range_with_len first (n - first))) k c)

module _ (p : Polyhedron) (few : IsRow (length (cone_of p).rows)) (narrow : p.n ≤ most_columns) where
  few_phase_rows : (kind : Kind) → IsRow (length (phase_rows kind p))
  few_phase_rows H =
      let sum = length-append (file_rows p) (added_row p.kind p.n (file_rows p)) in omega (arith, few, sum)
  few_phase_rows V = few

  cut_labels : (kind : Kind) (fixed : List Vector) (k : ℕ) → Contains (cut_space kind p fixed).labels k → IsKeyLabel k
  cut_labels H fixed k c = labels_fit (length (phase_rows H p)) 1 p.n k (few_phase_rows H) narrow c
  cut_labels V fixed k c = labels_fit (length (phase_rows V p)) 0 p.n k (few_phase_rows V) narrow c

  main_labels : (free : List ℕ) (k : ℕ) → Contains (main_space p free).labels k → IsKeyLabel k
  main_labels free k c =
      let fixed : List Vector = map coordinate free ++ equations p in
      cut_labels p.kind fixed k (filter_only (is_left (cone_of p).rows) (cut_space p.kind p fixed).labels k c).0

  abbrev Fits : Space → Type 0
  Fits space = (k : ℕ) → Contains space.labels k → IsKeyLabel k

  phase_labels : (phase : Phase) (space : Space) → IsSpaceOf p phase space → Fits space
  phase_labels Cone space e = subst Fits (sym e) (λ k c. labels_fit (length (cone_of p).rows) 0 p.n k few narrow c)
  phase_labels Prepare space e = subst Fits (sym e) (λ k c. cut_labels p.kind [] k c)
  phase_labels Main space (free, columns, e) = subst Fits (sym e) (λ k c. main_labels free k c)
  phase_labels First space (free, start, columns, is, e) =
      subst Fits (sym e)
      (λ k c. by_cases IsKeyLabel 0 (main_space p free).labels (omega arith) (λ i d. main_labels free i d) k c)

-- ---- places
place_fits : (place : Place) (i j : ℕ) → IsPlace place i j → IsPlaceLabel i → IsPlaceLabel j → HasPlaceText place
place_fits place i j (row, col) hi hj =
    record { row = subst IsPlaceLabel (sym row) hi; column = subst IsPlaceLabel (sym col) hj }

module _ (o : Overflow) (labels : List ℕ) (fit : (k : ℕ) → Contains labels k → IsKeyLabel k)
    (within : (k : ℕ) → Contains o.key k → Contains labels k) (key : HasKeyText o.key)
    (r s : ℕ) (outside : Contains labels r) (inside : Contains o.key s) where
  column_fits : (j : ℕ) → Contains o.key j ⊎ (j ≡ constant_label) → IsPlaceLabel j
  column_fits j (inl c) = inl (fit j (within j c))
  column_fits j (inr e) = inr e

  by_places : IsInner labels o.key r s o ⊎ IsOuter labels s o → HasOverflowText o
  by_places (inl h) =
      let row = inl (fit r outside) in
      let column = inl (fit s (within s inside)) in
      let other_row = inl (fit h.i h.row) in
      let other_column = column_fits h.j h.column in
      record {
        key = key;
        a = place_fits o.a r s h.a row column;
        b = place_fits o.b h.i h.j h.b other_row other_column;
        c = place_fits o.c h.i s h.c other_row column;
        d = place_fits o.d r h.j h.d row other_column;
      }
  by_places (inr h) =
      let column = inl (fit s (within s inside)) in
      let row = inl (fit h.i h.row) in
      record {
        key = key;
        a = place_fits o.a h.i s h.a row column;
        b = place_fits o.b s s h.b column column;
        c = place_fits o.c h.i s h.c row column;
        d = place_fits o.d s s h.d column column;
      }

pub passing_has_text : (p : Polyhedron) (o : Overflow) → IsRow (length (cone_of p).rows) → p.n ≤ most_columns → IsKey o.key →
    Passes p o → HasOverflowText o
passing_has_text p o few narrow is_key h =
    let fit = phase_labels p few narrow o.phase h.space h.is_space in
    let within : (k : ℕ) → Contains o.key k → Contains h.space.labels k =
    λ k c. All-contains (Contains h.space.labels) o.key k h.dictionary.cobasis.labels c in
    let key : HasKeyText o.key = record {
      is_key = is_key;
      labels = all_from IsKeyLabel o.key (λ k c. fit k (within k c));
    } in
    by_places o h.space.labels fit within key h.r h.s h.outside.0 h.inside h.passing.places
