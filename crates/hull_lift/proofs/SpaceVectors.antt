-- The vectors of the spaces of the phases, over the coordinates of the cone.
use Rattle.std.proofs.Common.{◌≡◌, ◌≢◌, ℕ, zero, suc, ◌+◌, ◌-◌, ◌≤◌, ◌<◌, true, false, List, [], ◌∷◌, ◌++◌, map, length, refl, sym, ap, subst, ◌∙◌, ⊎_elim, arith}
use Rattle.std.specs.Prelude.{not}
use Rattle.std.specs.List.{Contains, filter, range_with_len}
use Rattle.std.proofs.lemmas.Bool.{le-ltb, ltb-true, cond-true, cond-false, cond_both, cases_Bool}
use Rattle.std.proofs.lemmas.List.Elements.{Contains-append_cases}
use Rattle.poly_num.specs.Vectors.{Vector, ◌·◌}
use Rattle.poly_model.specs.declared.kind.Kind.{Kind}
use Rattle.poly_model.specs.declared.kind.Kind.TheVariants.{H, V}
use Rattle.poly_model.specs.declared.overflow.Phase.{Phase}
use Rattle.poly_model.specs.declared.overflow.Phase.TheVariants.{Cone, Prepare, Main, First}
use Rattle.poly_model.specs.Systems.{Row, row_of, Polyhedron, file_rows, cone_of}
use Rattle.poly_model.specs.Cones.{at, coordinate}
use Rattle.poly_model.specs.Spaces.{Space, IsInside, IsSpaceOf, is_left, is_member, label_form, labels_of, in_front, with_constants, without_constants, linear_rows, cut_space, cone_space, prepare_space, main_space}
use Rattle.poly_model.specs.Labels.{coordinates_from, is_row, coordinate_label, coordinate_index}
use Rattle.linear_laws.proofs.Entries.{coordinate_reads}
use Rattle.dictionary_laws.specs.Coordinates.{first_coordinate}
use Rattle.dictionary_laws.proofs.Filters.{filter_only, filter_kept, range_only, map_only, member_has, coordinate_is_label}
use Rattle.dictionary_laws.proofs.CoordinateSpaces.{coordinate_form}
use Rattle.dictionary_laws.proofs.InFront.{with_front}
use Rattle.dictionary_laws.proofs.MainRows.{row_in_cone}
use Rattle.hull_lift.proofs.ColumnNumbers.{form_of_coordinate}

-- y over the coordinates of the cone: the coordinates and labels of the space have their values there
pub record IsOver (p : Polyhedron) (space : Space) (y : Vector) : Type 0 where
  pub vector : Vector
  pub width : length vector ≡ p.n
  pub values : (k : ℕ) → Contains space.labels k → space.form k · y ≡ label_form (cone_of p).rows k · vector
  pub coordinates : (j : ℕ) → j < p.n → form_of_coordinate space j · y ≡ at j vector

-- ---- labels

-- the label of a coordinate is left, since it is no row
pub coordinate_is_left : (rows : List Row) (j : ℕ) → is_left rows (coordinate_label j) ≡ true
coordinate_is_left rows j =
    cond-false (is_row (coordinate_label j)) (not (row_of rows (coordinate_label j)).linear) true
    (le-ltb (coordinate_label j) coordinates_from (omega arith))

-- a label that is a row has the number of one
row_number : (m first n k : ℕ) → Contains (labels_of m first n) k → is_row k ≡ true → (1 ≤ k) × (k < 1 + m)
row_number m first n k c e =
    ⊎_elim
    (λ (d : Contains (range_with_len 1 m) k). range_only 1 m k d)
    (λ (d : Contains (map coordinate_label (range_with_len first (n - first))) k).
    let h = map_only coordinate_label (range_with_len first (n - first)) k d in
    let f : k ≡ coordinate_label h.0 = h.2 in
    let l = ltb-true k coordinates_from e in
    absurd (omega arith))
    (Contains-append_cases (range_with_len 1 m) (map coordinate_label (range_with_len first (n - first))) k c)

-- the rows of the file stand in the cone too
pub same_form : (p : Polyhedron) (first n k : ℕ) → Contains (labels_of (length (file_rows p)) first n) k →
    label_form (file_rows p) k ≡ label_form (cone_of p).rows k
same_form p first n k c =
    ⊎_elim
    (λ (e : is_row k ≡ true).
    let r = row_number (length (file_rows p)) first n k c e in
    let l = r.0 in
    let h = r.1 in
    cond-true (is_row k) (row_of (file_rows p) k).entries (coordinate (coordinate_index k)) e
    ∙ ap (λ (row : Row). row.entries) (sym (row_in_cone p k l (omega arith)))
    ∙ sym (cond-true (is_row k) (row_of (cone_of p).rows k).entries (coordinate (coordinate_index k)) e))
    (λ (e : is_row k ≡ false).
    cond-false (is_row k) (row_of (file_rows p) k).entries (coordinate (coordinate_index k)) e
    ∙ sym (cond-false (is_row k) (row_of (cone_of p).rows k).entries (coordinate (coordinate_index k)) e))
    (cases_Bool (is_row k))

-- ---- a polyhedron cut by fixed rows, with some of its labels

-- the space with these labels
abbrev pub with_labels : Space → List ℕ → Space
with_labels space labels = record space { labels = labels }

-- the coordinates from the first on are among them
abbrev pub HasFrom : ℕ → ℕ → List ℕ → Type 0
HasFrom first n labels = (j : ℕ) → first ≤ j → j < n → Contains labels (coordinate_label j)

module _ (p : Polyhedron) (fixed : List Vector) (labels : List ℕ) where
  abbrev vectors : Space
  vectors = with_labels (with_constants p.n fixed (file_rows p)) labels

  abbrev directions : Space
  directions = with_labels (without_constants p.n fixed (cone_of p).rows) labels

  not_there : (P : Type 0) (j : ℕ) → Contains labels (coordinate_label j) →
      is_member (coordinate_label j) labels ≡ false → P
  not_there P j c e = absurd (let h = member_has (coordinate_label j) labels c in cc)

  vectors_form : HasFrom 1 p.n labels → (j : ℕ) → j < p.n → form_of_coordinate vectors j ≡ coordinate j
  vectors_form has zero l =
      cond_both (is_member (coordinate_label 0) labels) (label_form (file_rows p) (coordinate_label 0))
      (coordinate 0) (λ g. g ≡ coordinate 0)
      (λ e. coordinate_form (file_rows p) 0) (λ e. refl)
  vectors_form has (suc j) l =
      cond_both (is_member (coordinate_label (suc j)) labels) (label_form (file_rows p) (coordinate_label (suc j)))
      (coordinate 0) (λ g. g ≡ coordinate (suc j))
      (λ e. coordinate_form (file_rows p) (suc j)) (not_there _ (suc j) (has (suc j) (omega arith) l))

  over_vectors : HasFrom 1 p.n labels →
      ((k : ℕ) → Contains labels k → Contains (labels_of (length (file_rows p)) 1 p.n) k) →
      (y : Vector) → IsInside vectors y → IsOver p vectors y
  over_vectors has old y i = record {
    vector = y;
    width = i.width;
    values = λ k c. ap (λ (g : Vector). g · y) (same_form p 1 p.n k (old k c));
    coordinates = λ j l. ap (λ (g : Vector). g · y) (vectors_form has j l) ∙ coordinate_reads j y;
  }

  directions_form : HasFrom 0 p.n labels → (j : ℕ) → j < p.n → form_of_coordinate directions j ≡ in_front (coordinate j)
  directions_form has j l =
      cond_both (is_member (coordinate_label j) labels) (in_front (label_form (cone_of p).rows (coordinate_label j)))
      (coordinate 0) (λ g. g ≡ in_front (coordinate j))
      (λ e. ap in_front (coordinate_form (cone_of p).rows j)) (not_there _ j (has j (omega arith) l))

  over_directions : HasFrom 0 p.n labels → (y : Vector) → IsInside directions y → IsOver p directions y
  over_directions has [] i = absurd (let w = i.width in omega arith)
  over_directions has (x ∷ v) i = record {
    vector = v;
    width = let w = i.width in omega arith;
    values = λ k c. with_front (label_form (cone_of p).rows k) x v;
    coordinates = λ j l. ap (λ (g : Vector). g · (x ∷ v)) (directions_form has j l) ∙ with_front (coordinate j) x v
        ∙ coordinate_reads j v;
  }

over_cut : (kind : Kind) (p : Polyhedron) (fixed : List Vector) (labels : List ℕ) →
    HasFrom (first_coordinate kind) p.n labels →
    ((k : ℕ) → Contains labels k → Contains (cut_space kind p fixed).labels k) →
    (y : Vector) → IsInside (with_labels (cut_space kind p fixed) labels) y →
    IsOver p (with_labels (cut_space kind p fixed) labels) y
over_cut H p fixed labels has old = over_vectors p fixed labels has old
over_cut V p fixed labels has old = over_directions p fixed labels has

has_coordinates : (kind : Kind) (p : Polyhedron) (fixed : List Vector) →
    HasFrom (first_coordinate kind) p.n (cut_space kind p fixed).labels
has_coordinates H p fixed = coordinate_is_label (length (file_rows p)) 1 p.n
has_coordinates V p fixed = coordinate_is_label (length (cone_of p).rows) 0 p.n

-- ---- the phases

over_main : (p : Polyhedron) (free : List ℕ) (y : Vector) → IsInside (main_space p free) y →
    IsOver p (main_space p free) y
over_main p free =
    let fixed = map coordinate free ++ linear_rows (file_rows p) in
    let labels = (cut_space p.kind p fixed).labels in
    let left = is_left (cone_of p).rows in
    over_cut p.kind p fixed (filter left labels)
    (λ j l h. filter_kept left labels (coordinate_label j) (has_coordinates p.kind p fixed j l h)
    (coordinate_is_left (cone_of p).rows j))
    (λ k c. (filter_only left labels k c).0)

pub over_phase : (p : Polyhedron) (phase : Phase) (space : Space) → phase ≢ First → IsSpaceOf p phase space →
    (y : Vector) → IsInside space y → IsOver p space y
over_phase p Cone space n is =
    subst (λ (s : Space). (y : Vector) → IsInside s y → IsOver p s y) (sym is)
    (over_directions p [] (cone_space p).labels (coordinate_is_label (length (cone_of p).rows) 0 p.n))
over_phase p Prepare space n is =
    subst (λ (s : Space). (y : Vector) → IsInside s y → IsOver p s y) (sym is)
    (over_cut p.kind p [] (prepare_space p).labels (has_coordinates p.kind p []) (λ k c. c))
over_phase p Main space n is =
    subst (λ (s : Space). (y : Vector) → IsInside s y → IsOver p s y) (sym is.2) (over_main p is.0)
over_phase p First space n is = absurd (n refl)
