-- The search of a polyhedron and what is shown in it, in the words of its listing: vectors have an entry for each column
-- of the file, and of a V file those alone are shown that a point touches.
use Rattle.std.specs.Prelude.{ℕ, List, Option}
use Rattle.poly_num.specs.Vectors.{Vector}
use Rattle.poly_model.specs.Systems.{Polyhedron, cone_of}
use Rattle.poly_model.specs.FreeColumns.{AreFreeColumns}
use Rattle.poly_model.specs.Extreme.{IsShown}
use Rattle.poly_model.specs.Spaces.{main_space, in_main}
use Rattle.poly_model.specs.Dictionaries.{Table}
use Rattle.poly_model.specs.Tree.{IsFeasibleRoot, IsLexFeasible, IsAbove, IsShownAt}

-- a search may begin there: a feasible cobasis of rows. So the equations have a common point
pub record IsSubtreeRoot (p : Polyhedron) (root : List ℕ) : Type 0 where
  pub free : List ℕ
  pub columns : AreFreeColumns (cone_of p) free
  pub home : Table
  pub feasible : IsFeasibleRoot (main_space p free) root home

-- a lexicographically feasible cobasis
pub record IsSubtreeKey (p : Polyhedron) (root key : List ℕ) : Type 0 where
  pub free : List ℕ
  pub columns : AreFreeColumns (cone_of p) free
  pub table : Table
  pub feasible : IsLexFeasible (main_space p free) root key table

-- taking parents so many times leads from one to the key
pub record IsSubtreeDepth (p : Polyhedron) (root one key : List ℕ) (depth : ℕ) : Type 0 where
  pub free : List ℕ
  pub columns : AreFreeColumns (cone_of p) free
  pub above : IsAbove (main_space p free) root depth one key

-- y is shown at a lexicographically feasible cobasis: as its point, or along the column that the place names
pub record IsShownAtKey (p : Polyhedron) (root key : List ℕ) (place : Option ℕ) (y : Vector) : Type 0 where
  pub free : List ℕ
  pub columns : AreFreeColumns (cone_of p) free
  pub table : Table
  pub feasible : IsLexFeasible (main_space p free) root key table
  pub shown : IsShownAt (main_space p free) root key table place (in_main p.kind y)
  pub touched : IsShown p.kind (cone_of p) y

-- y is in the share of the key: it is shown at a cobasis under it
pub record InSubtree (p : Polyhedron) (root key : List ℕ) (y : Vector) : Type 0 where
  pub one : List ℕ
  pub depth : ℕ
  pub under : IsSubtreeDepth p root one key depth
  pub place : Option ℕ
  pub shown : IsShownAtKey p root one place y
