-- The spaces of the four phases, with a linear form for each label.
use Rattle.std.specs.Prelude.{◌≡◌, ◌≢◌, ℕ, suc, ◌-◌, ◌==◌, Bool, true, false, not, cond, if◌then◌else◌, ℤ, pos, List, [], ◌∷◌, ◌++◌, map, length}
use Rattle.std.specs.List.{filter, list_any, range_with_len}
use Rattle.poly_num.specs.Vectors.{Vector, ◌·◌}
use Rattle.poly_model.specs.declared.kind.Kind.{Kind}
use Rattle.poly_model.specs.declared.kind.Kind.TheVariants.{H, V}
use Rattle.poly_model.specs.declared.overflow.Phase.{Phase}
use Rattle.poly_model.specs.declared.overflow.Phase.TheVariants.{Cone, Prepare, Main, First}
use Rattle.poly_model.specs.Independence.{Vanish, IsFirstBasis}
use Rattle.poly_model.specs.Labels.{is_row, coordinate_label, coordinate_index}
use Rattle.poly_model.specs.Systems.{Row, row_of, Polyhedron, file_rows, cone_of}
use Rattle.poly_model.specs.Cones.{coordinate}
use Rattle.poly_model.specs.FreeColumns.{AreFreeColumns}

-- the vectors of n entries at which the fixed rows are 0. `infinity` is the form that constants are
-- taken times, `labels` are the labels of the phase, and each has the form that gives its value
pub record Space : Type 0 where
  pub n : ℕ
  pub fixed : List Vector
  pub infinity : Vector
  pub labels : List ℕ
  pub form : ℕ → Vector

-- y is a vector of the space
pub record IsInside (space : Space) (y : Vector) : Type 0 where
  pub width : length y ≡ space.n
  pub fixed : Vanish space.fixed y

-- z is a difference of points of the space: a vector of it that is 0 at infinity
pub record IsDirection (space : Space) (z : Vector) : Type 0 where
  pub inside : IsInside space z
  pub level : space.infinity · z ≡ pos 0

-- the space has a point: some vector of it is not 0 at infinity
pub record HasPoints (space : Space) : Type 0 where
  pub vector : Vector
  pub inside : IsInside space vector
  pub finite : space.infinity · vector ≢ pos 0

-- the entries of a row, or the form of a coordinate
abbrev pub label_form : List Row → ℕ → Vector
label_form rows k = if is_row k then (row_of rows k).entries else coordinate (coordinate_index k)

-- the labels of m rows, and of coordinates j up to and without n
abbrev pub labels_of : ℕ → ℕ → ℕ → List ℕ
labels_of m j n = range_with_len 1 m ++ map coordinate_label (range_with_len j (n - j))

-- constants are read off entry 0 of the vectors themselves
abbrev pub with_constants : ℕ → List Vector → List Row → Space
with_constants n fixed rows = record {
  n = n;
  fixed = fixed;
  infinity = coordinate 0;
  labels = labels_of (length rows) 1 n;
  form = label_form rows;
}

abbrev pub in_front : Vector → Vector
in_front g = pos 0 ∷ g

-- there are no constants: one entry more stands in front, for them alone, and all forms are 0 on it
abbrev pub without_constants : ℕ → List Vector → List Row → Space
without_constants n fixed rows = record {
  n = suc n;
  fixed = map in_front fixed;
  infinity = coordinate 0;
  labels = labels_of (length rows) 0 n;
  form = λ k. in_front (label_form rows k);
}

-- the whole cone, over all coordinates
abbrev pub cone_space : Polyhedron → Space
cone_space p = without_constants p.n [] (cone_of p).rows

-- the rows of the phases `prepare`, `main` and `first`: of an H file its own, of a V file those of its cone
abbrev pub phase_rows : Kind → Polyhedron → List Row
phase_rows H p = file_rows p
phase_rows V p = (cone_of p).rows

-- a polyhedron cut by fixed rows: of H the rows have constants
abbrev pub cut_space : Kind → Polyhedron → List Vector → Space
cut_space H p fixed = with_constants p.n fixed (phase_rows H p)
cut_space V p fixed = without_constants p.n fixed (phase_rows V p)

-- the file's rows, nothing divided out
abbrev pub prepare_space : Polyhedron → Space
prepare_space p = cut_space p.kind p []

abbrev pub linear_rows : List Row → List Vector
linear_rows [] = []
linear_rows (row ∷ rows) = cond row.linear (row.entries ∷ linear_rows rows) (linear_rows rows)

-- the linear rows of a file: its equations, or its lines
abbrev pub equations : Polyhedron → List Vector
equations p = linear_rows (file_rows p)

-- a label of what is left: a coordinate, or a row that is not linear
abbrev pub is_left : List Row → ℕ → Bool
is_left rows k = if is_row k then not (row_of rows k).linear else true

-- the equations hold and the free coordinates are 0; the rows that are not linear are left
abbrev pub main_space : Polyhedron → List ℕ → Space
main_space p free =
    let space = cut_space p.kind p (map coordinate free ++ equations p) in
    record space { labels = filter (is_left (cone_of p).rows) space.labels }

-- a vector of the cone in the main space: of V an entry for constants stands in front, and is 0
abbrev pub in_main : Kind → Vector → Vector
in_main H y = y
in_main V y = pos 0 ∷ y

-- the members that are marked
abbrev pub marked : List ℕ → List Bool → List ℕ
marked [] ms = []
marked (k ∷ ks) [] = []
marked (k ∷ ks) (true ∷ ms) = k ∷ marked ks ms
marked (k ∷ ks) (false ∷ ms) = marked ks ms

-- the rows of the space, ascending, each taken where no combination of those before it gives it on directions
pub record IsStartCobasis (space : Space) (start : List ℕ) : Type 0 where
  pub marks : List Bool
  pub first : IsFirstBasis space.n (space.infinity ∷ space.fixed) (map space.form (filter is_row space.labels)) marks
  pub taken : start ≡ marked (filter is_row space.labels) marks

abbrev pub is_member : ℕ → List ℕ → Bool
is_member k ks = list_any (λ i. i == k) ks

-- the value of t at a label outside the start cobasis, where it is added
abbrev pub lift_of : List ℕ → ℕ → ℤ
lift_of start k = if is_row k then (if is_member k start then pos 0 else pos 1) else pos 0

-- one unknown more, t, which stands in front and is row 0; it is added to the rows outside the start cobasis
abbrev pub lifted : Space → List ℕ → Space
lifted space start = record {
  n = suc space.n;
  fixed = map in_front space.fixed;
  infinity = in_front space.infinity;
  labels = 0 ∷ space.labels;
  form = λ k. if k == 0 then coordinate 0 else lift_of start k ∷ space.form k;
}

-- the space of a phase of a polyhedron
abbrev pub IsSpaceOf : Polyhedron → Phase → Space → Type 0
IsSpaceOf p Cone space = space ≡ cone_space p
IsSpaceOf p Prepare space = space ≡ prepare_space p
IsSpaceOf p Main space = (free : List ℕ) × AreFreeColumns (cone_of p) free × (space ≡ main_space p free)
IsSpaceOf p First space =
    (free : List ℕ) × (start : List ℕ) × AreFreeColumns (cone_of p) free × IsStartCobasis (main_space p free) start × (space ≡ lifted (main_space p free) start)
