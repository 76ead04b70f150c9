-- The cone whose corners are listed, and the system that it is of.
use Rattle.std.specs.Prelude.{◌≡◌, ◌↔◌, ℕ, ◌-◌, Bool, true, false, cond, List, [], length, map}
use Rattle.std.specs.List.{All, list_any, slice_index_or}
use Rattle.poly_num.specs.Vectors.{Vector, ◌·◌}
use Rattle.poly_model.specs.declared.kind.Kind.{Kind}
use Rattle.poly_model.specs.declared.kind.Kind.TheVariants.{H, V}
use Rattle.poly_model.specs.Independence.{Vanish}
use Rattle.poly_model.specs.Systems.{Row, System}
use Rattle.poly_model.specs.Cones.{IsTight}
use Rattle.poly_model.specs.FreeColumns.{IsZeroAtFree}
use Rattle.poly_model.specs.Extreme.{IsShown}
use Rattle.linear_laws.specs.NewRows.{AreNew}
use Rattle.linear_laws.specs.Corners.{IsPointed, IsCorner}
use Rattle.cone_laws.specs.Faces.{is_zero}

-- vectors of n entries at which the rows of the base are 0 and the others are at least 0; the label of a row is
-- its place, counted from 1
pub record ListedCone : Type 0 where
  pub n : ℕ
  pub base : List Vector
  pub rows : List Vector
  -- which of the corners are shown
  pub shows : Vector → Bool

-- the row with the label i
abbrev pub row_at : ListedCone → ℕ → Vector
row_at cone i = slice_index_or cone.rows (i - 1) []

-- the rows of the base are independent, and the cone holds no line
pub record IsListable (cone : ListedCone) : Type 0 where
  pub independent : AreNew cone.n cone.base
  pub pointed : IsPointed cone.n cone.base cone.rows

-- y is a corner of the cone, and is shown
pub record IsShownCorner (cone : ListedCone) (y : Vector) : Type 0 where
  pub corner : IsCorner cone.n cone.base cone.rows y
  pub shown : cone.shows y ≡ true

-- the cone is that of the system: its base is independent and is 0 exactly where the free columns and the linear
-- rows are; all rows of the system are its rows, the linear ones too, so that each has its label
pub record IsConeOf (sys : System) (cone : ListedCone) : Type 0 where
  pub width : cone.n ≡ sys.n
  pub independent : AreNew cone.n cone.base
  pub fixed : (z : Vector) → length z ≡ cone.n →
      Vanish cone.base z ↔ (IsZeroAtFree sys z × All (λ row. row.linear ≡ true → IsTight z row) sys.rows)
  pub rows : cone.rows ≡ map (λ row. row.entries) sys.rows
  pub shows : (y : Vector) → (cone.shows y ≡ true) ↔ IsShown sys.kind sys y

-- whether y is shown: of an H file always, of a V file where some point row is tight
abbrev pub shows_of : Kind → List Row → Vector → Bool
shows_of H rows y = true
shows_of V rows y = list_any (λ row. cond row.point (is_zero (row.entries · y)) false) rows

-- the cone of a system over this base
abbrev pub cone_over : List Vector → System → ListedCone
cone_over base sys = record {
  n = sys.n;
  base = base;
  rows = map (λ row. row.entries) sys.rows;
  shows = shows_of sys.kind sys.rows;
}
