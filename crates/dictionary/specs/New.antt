-- The dictionary with which a phase begins.
use Rattle.std.specs.Prelude.{◌≡◌, ℕ, ◌-◌, Bool, true, false, if◌then◌else◌, pos, ◌+◌, ℤ, List, length, ◌++◌}
use Rattle.std.specs.List.{range_with_len, slice_index_or}
use Rattle.poly_num.specs.Vectors.{Vector}
use Rattle.poly_model.specs.declared.kind.Kind.{Kind}
use Rattle.poly_model.specs.declared.kind.Kind.TheVariants.{H, V}
use Rattle.poly_model.specs.declared.overflow.Phase.{Phase}
use Rattle.poly_model.specs.declared.overflow.Phase.TheVariants.{Cone, Prepare, Main, First}
use Rattle.poly_model.specs.Systems.{Row, System, Polyhedron, row_of, cone_of}
use Rattle.poly_model.specs.Spaces.{Space, IsSpaceOf, in_front}
use Rattle.dictionary_laws.specs.Coordinates.{coordinate_key}
use Rattle.dictionary.specs.Views.{Dictionary, IsDictionaryIn}

-- the first entry of a row is its constant
abbrev pub has_constants : Phase → Kind → Bool
has_constants Prepare H = true
has_constants Prepare V = false
has_constants Cone kind = false
has_constants Main kind = false
has_constants First kind = false

-- the first coordinate that has a label
abbrev pub first_label : Bool → ℕ
first_label constants = if constants then 1 else 0

-- with constants there is no row at infinity, which stands last
abbrev pub row_count : Bool → ℕ → ℕ
row_count constants rows = if constants then rows - 1 else rows

-- the cells of a row: without constants there is a 0 in front
abbrev pub row_cells : Bool → Vector → Vector
row_cells constants entries = if constants then entries else in_front entries

-- how many columns of cells there are for rows of so many entries
abbrev pub first_width : Bool → ℕ → ℕ
first_width constants n = if constants then n else n + 1

-- the cell of row i in column j
abbrev pub first_number : Bool → List Row → ℕ → ℕ → ℤ
first_number constants rows i j = slice_index_or (row_cells constants (row_of rows i).entries) j (pos 0)

-- the dictionary of the coordinates, over the denominator 1, with the labels of the rows and of the coordinates; in
-- each space of this phase of a polyhedron with this cone
pub record IsCoordinateDictionary (sys : System) (phase : Phase) (d : Dictionary) : Type 0 where
  pub phase_is : d.phase ≡ phase
  pub denominator : d.denominator ≡ pos 1
  pub key : d.key ≡ coordinate_key (first_label (has_constants phase sys.kind)) sys.n
  pub labels : d.labels ≡ range_with_len 1 (row_count (has_constants phase sys.kind) (length sys.rows)) ++ d.key
  pub dictionary : (p : Polyhedron) → sys ≡ cone_of p → (space : Space) → IsSpaceOf p phase space →
      IsDictionaryIn space d
