-- The extreme vectors of a polyhedron's cone are those of its main space, whose rows ascend.
use Rattle.std.specs.Prelude.{◌↔◌, ℕ, List, length}
use Rattle.poly_num.specs.Vectors.{Vector}
use Rattle.poly_model.specs.Keys.{IsAscending}
use Rattle.poly_model.specs.Systems.{Polyhedron, cone_of}
use Rattle.poly_model.specs.FreeColumns.{AreFreeColumns}
use Rattle.poly_model.specs.Extreme.{IsShown, IsExtreme}
use Rattle.poly_model.specs.Spaces.{Space, main_space, lifted, in_main}
use Rattle.poly_model.specs.LexOrder.{rows_in}
use Rattle.poly_model.specs.Tree.{IsExtremeIn}
use Rattle.poly_model.specs.Labels.{IsRow}
use Rattle.linear_laws.specs.Distinct.{AreDistinct}

-- a vector of the cone is extreme exactly where it is extreme in the main space, and shown. No label of a row may be
-- that of a coordinate
abbrev pub ExtremesOfMain : Type 0
ExtremesOfMain =
    (p : Polyhedron) (free : List ℕ) → AreFreeColumns (cone_of p) free →
    IsRow (length (cone_of p).rows) → (y : Vector) →
    IsExtreme (cone_of p) y ↔ (IsExtremeIn (main_space p free) (in_main p.kind y) × IsShown p.kind (cone_of p) y)

-- the rows stand in ascending order, each once
pub record HasAscendingRows (space : Space) : Type 0 where
  pub ascending : IsAscending (rows_in space.labels)
  pub distinct : AreDistinct (rows_in space.labels)

abbrev pub RowsAscend : Type 0
RowsAscend =
    (p : Polyhedron) (free start : List ℕ) →
    HasAscendingRows (main_space p free) × HasAscendingRows (lifted (main_space p free) start)
