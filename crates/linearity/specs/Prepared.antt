-- What is prepared before a search.
use Rattle.std.specs.Prelude.{◌≡◌, ℕ, ◌+◌, ◌<◌, ◌≤◌, true, pos, List, length}
use Rattle.std.specs.List.{Contains}
use Rattle.poly_num.specs.Vectors.{Vector}
use Rattle.poly_model.specs.declared.overflow.Phase.TheVariants.{Prepare, Main}
use Rattle.poly_model.specs.Labels.{coordinates_from}
use Rattle.poly_model.specs.Limits.{most_columns}
use Rattle.poly_model.specs.Systems.{row_of, System, Polyhedron, cone_of}
use Rattle.poly_model.specs.FreeColumns.{AreFreeColumns, AreLinesOf}
use Rattle.poly_model.specs.Spaces.{HasPoints, IsStartCobasis, main_space}
use Rattle.poly_model.specs.Dictionaries.{Table}
use Rattle.poly_model.specs.Equations.{AreConsistent}
use Rattle.dictionary.specs.Views.{Dictionary, IsDictionaryIn, table_of}
use Rattle.linearity.specs.declared.eliminate.Pass.TheVariants.{Linear, Others}
use Rattle.linearity.specs.Elimination.{IsDictionaryOf, IsEliminated}

-- the lines, by ascending free column, and the dictionary of the start cobasis in the main space, which has a point.
-- The rows and columns are few enough for labels
pub record IsPrepared (p : Polyhedron) (lines : List Vector) (free : List ℕ) (d : Dictionary) : Type 0 where
  pub few : length (cone_of p).rows < coordinates_from
  pub narrow : p.n ≤ most_columns
  pub consistent : AreConsistent p
  pub points : HasPoints (main_space p free)
  pub columns : AreFreeColumns (cone_of p) free
  pub are_lines : AreLinesOf (cone_of p) free lines
  pub phase : d.phase ≡ Main
  pub dictionary : IsDictionaryIn (main_space p free) d
  pub start : IsStartCobasis (main_space p free) d.key

-- the constant of each linear row is 0
abbrev pub HasNoConstants : System → Dictionary → Type 0
HasNoConstants sys d =
    (i : ℕ) → 0 < i → i ≤ length sys.rows → Contains d.labels i → (row_of sys.rows i).linear ≡ true →
    Table.constant (table_of d) i ≡ pos 0

-- what is prepared, as a value
pub record Preparation : Type 0 where
  pub lines : List Vector
  pub free : List ℕ
  pub dictionary : Dictionary

-- a dictionary of the file's rows at which all rows have been tried; the equations have a common point
pub record EndsElimination (p : Polyhedron) (d : Dictionary) : Type 0 where
  pub consistent : AreConsistent p
  pub phase : d.phase ≡ Prepare
  pub of : IsDictionaryOf p d
  pub tried : IsEliminated (cone_of p).rows Others (length (cone_of p).rows + 1) d

-- a dictionary of the file's rows at which no row has been tried
pub record BeginsElimination (p : Polyhedron) (d : Dictionary) : Type 0 where
  pub phase : d.phase ≡ Prepare
  pub of : IsDictionaryOf p d
  pub untried : IsEliminated (cone_of p).rows Linear 1 d
