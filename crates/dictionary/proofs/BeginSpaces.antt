-- The table of the coordinates is their dictionary in the spaces of the first two phases.
use Rattle.std.proofs.Common.{◌≡◌, ℕ, ◌-◌, ◌<◌, ◌≤◌, ◌++◌, Bool, true, false, ℤ, pos, cond, List, [], ◌⊎◌, ⊎_elim, length, arith, refl, sym, ap, subst, ◌∙◌}
use Rattle.std.specs.List.{range_with_len}
use Rattle.std.proofs.lemmas.List.{length-append}
use Rattle.std.proofs.lemmas.Bool.{lt-ltb}
use Rattle.poly_model.specs.Labels.{coordinates_from, IsRow, coordinate_index}
use Rattle.poly_model.specs.Limits.{most_columns, most_cone_rows}
use Rattle.poly_model.specs.declared.kind.Kind.{Kind}
use Rattle.poly_model.specs.declared.kind.Kind.TheVariants.{H, V}
use Rattle.poly_model.specs.declared.overflow.Phase.{Phase}
use Rattle.poly_model.specs.declared.overflow.Phase.TheVariants.{Cone, Prepare}
use Rattle.poly_model.specs.Systems.{System, Polyhedron, Row, row_of, file_rows, added_row, cone_of}
use Rattle.poly_model.specs.Keys.{IsKey}
use Rattle.poly_model.specs.Cones.{at, coordinate}
use Rattle.poly_model.specs.Spaces.{Space, IsSpaceOf, label_form, with_constants, without_constants, cut_space, in_front}
use Rattle.dictionary_laws.specs.Coordinates.{coordinate_key, first_coordinate, HasCoordinates}
use Rattle.dictionary_laws.proofs.CoordinateSpaces.{phase_coordinates}
use Rattle.dictionary_laws.proofs.MainRows.{row_in_cone}
use Rattle.dictionary.specs.Views.{Dictionary, by_columns, IsDictionaryIn, IsWhole}
use Rattle.dictionary.specs.New.{first_label, first_width, first_number, has_constants, row_count, IsCoordinateDictionary}
use Rattle.dictionary.proofs.Beginnings.{first, first_whole, first_is_dictionary}

-- the form of a row's label is the row
row_form : (rows : List Row) (i : ℕ) → IsRow i → label_form rows i ≡ (row_of rows i).entries
row_form rows i l = ap (λ b. cond b (row_of rows i).entries (coordinate (coordinate_index i))) (lt-ltb i coordinates_from l)

module _ (phase : Phase) (n : ℕ) (some : 0 < n) (narrow : n ≤ most_columns) (m : ℕ) (few : m ≤ most_cone_rows) (rows : List Row) where
  -- all rows, without constants
  without_is : m ≡ length rows → HasCoordinates (without_constants n [] rows) (coordinate_key 0 n) →
      IsDictionaryIn (without_constants n [] rows) (first phase rows false n m some narrow few)
  without_is e h =
      first_is_dictionary phase rows false n m some narrow few (without_constants n [] rows) h
      (ap (λ k. range_with_len 1 k ++ coordinate_key 0 n) e)
      (λ i j l g k. ap (λ v. at j (in_front v)) (row_form rows i (omega arith)))

  -- the first rows, with constants
  with_is : (some_rows : List Row) → m ≡ length some_rows →
      ((i : ℕ) → 0 < i → i ≤ m → row_of rows i ≡ row_of some_rows i) →
      HasCoordinates (with_constants n [] some_rows) (coordinate_key 1 n) →
      IsDictionaryIn (with_constants n [] some_rows) (first phase rows true n m some narrow few)
  with_is some_rows e same h =
      first_is_dictionary phase rows true n m some narrow few (with_constants n [] some_rows) h
      (ap (λ k. range_with_len 1 k ++ coordinate_key 1 n) e)
      (λ i j l g k. ap (λ v. at j v) (row_form some_rows i (omega arith)) ∙ ap (λ (r : Row). at j r.entries) (sym (same i l g)))

-- the dictionary with which a phase of p begins, in this space, where the cone is that of the system
abbrev pub Begins : Polyhedron → Phase → Space → System → Type 0
Begins p phase space sys =
    IsSpaceOf p phase space → (m : ℕ) → m ≡ row_count (has_constants phase sys.kind) (length sys.rows) →
    (some : 0 < sys.n) (narrow : sys.n ≤ most_columns) (few : m ≤ most_cone_rows) →
    IsDictionaryIn space (first phase sys.rows (has_constants phase sys.kind) sys.n m some narrow few)

begins_cone : (p : Polyhedron) (space : Space) → Begins p Cone space (cone_of p)
begins_cone p space is m e some narrow few =
    subst (λ (s : Space). IsDictionaryIn s (first Cone (cone_of p).rows false p.n m some narrow few)) (sym is)
    (without_is Cone p.n some narrow m few (cone_of p).rows e (phase_coordinates p).cone)

begins_rows : (p : Polyhedron) (kind : Kind) → p.kind ≡ kind →
    HasCoordinates (cut_space kind p []) (coordinate_key (first_coordinate kind) p.n) →
    (m : ℕ) → m ≡ row_count (has_constants Prepare kind) (length (cone_of p).rows) →
    (some : 0 < p.n) (narrow : p.n ≤ most_columns) (few : m ≤ most_cone_rows) →
    IsDictionaryIn (cut_space kind p [])
    (first Prepare (cone_of p).rows (has_constants Prepare kind) p.n m some narrow few)
begins_rows p H is h m e some narrow few =
    let count : m ≡ length (file_rows p) =
    e
    ∙ ap (λ k. length (file_rows p ++ added_row k p.n (file_rows p)) - 1) is
    ∙ ap (λ k. k - 1) (length-append (file_rows p) (added_row H p.n (file_rows p)))
    ∙ omega arith in
    with_is Prepare p.n some narrow m few (cone_of p).rows (file_rows p) count
    (λ i l g. row_in_cone p i l (omega (arith, count)))
    h
begins_rows p V is h m e some narrow few =
    without_is Prepare p.n some narrow m few (cone_of p).rows e h

begins_prepare : (p : Polyhedron) (space : Space) → Begins p Prepare space (cone_of p)
begins_prepare p space is m e some narrow few =
    subst (λ (s : Space). IsDictionaryIn s (first Prepare (cone_of p).rows (has_constants Prepare p.kind) p.n m some narrow few)) (sym is)
    (begins_rows p p.kind refl ((phase_coordinates p).prepare some) m e some narrow few)

pub begins : (p : Polyhedron) (phase : Phase) (space : Space) (sys : System) → (phase ≡ Cone) ⊎ (phase ≡ Prepare) →
    sys ≡ cone_of p → Begins p phase space sys
begins p phase space sys early is =
    subst (λ (s : System). Begins p phase space s) (sym is)
    (⊎_elim
    (λ (e : phase ≡ Cone). subst (λ (f : Phase). Begins p f space (cone_of p)) (sym e) (begins_cone p space))
    (λ (e : phase ≡ Prepare). subst (λ (f : Phase). Begins p f space (cone_of p)) (sym e) (begins_prepare p space))
    early)

-- what the fields of a new `Dict` hold is that table
pub same_view : (phase : Phase) (rows : List Row) (b : Bool) (n m : ℕ) (some : 0 < n) (narrow : n ≤ most_columns) (few : m ≤ most_cone_rows)
    (labels key columns row_labels : List ℕ) (cells : List ℤ) → columns ≡ coordinate_key (first_label b) n →
    row_labels ≡ range_with_len 1 m → labels ≡ row_labels ++ columns → key ≡ columns →
    cells ≡ by_columns (first_number b rows) (range_with_len 1 m) (range_with_len 0 (first_width b n)) →
    first phase rows b n m some narrow few
    ≡ record { phase = phase; labels = labels; key = key; columns = columns; rows = row_labels; denominator = pos 1; cells = cells }
same_view phase rows b n m some narrow few labels key columns row_labels cells e r f g h = rw (h, g, f, r, e) refl

-- what the fields of a new `Dict` hold is whole, and is what is promised of a new one
module _ (sys : System) (phase : Phase) (early : (phase ≡ Cone) ⊎ (phase ≡ Prepare)) (m : ℕ)
    (em : m ≡ row_count (has_constants phase sys.kind) (length sys.rows)) (few : m ≤ most_cone_rows) (some : 0 < sys.n)
    (narrow : sys.n ≤ most_columns) where
  abbrev pub new_columns : List ℕ
  new_columns = coordinate_key (first_label (has_constants phase sys.kind)) sys.n

  abbrev pub new_dictionary : Dictionary
  new_dictionary = first phase sys.rows (has_constants phase sys.kind) sys.n m some narrow few

  pub new_key : IsKey new_columns
  new_key = (first_whole phase sys.rows (has_constants phase sys.kind) sys.n m some narrow few).key

  pub new_whole : IsWhole new_dictionary
  new_whole = first_whole phase sys.rows (has_constants phase sys.kind) sys.n m some narrow few

  pub new_is : IsCoordinateDictionary sys phase new_dictionary
  new_is = record {
    phase_is = refl;
    denominator = refl;
    key = refl;
    labels = ap (λ k. range_with_len 1 k ++ new_columns) em;
    dictionary = λ p is space at. begins p phase space sys early is at m em some narrow few;
  }
