-- The children of a cobasis and what is shown at one, in the words of a polyhedron.
use Rattle.std.specs.Prelude.{ℕ, List, Option}
use Rattle.poly_num.specs.Vectors.{Vector}
use Rattle.poly_model.specs.FreeColumns.{AreFreeColumns}
use Rattle.poly_model.specs.Spaces.{main_space}
use Rattle.poly_model.specs.Subtrees.{IsShownAtKey}
use Rattle.poly_model.specs.Systems.{Polyhedron, cone_of}
use Rattle.search_laws.specs.Shares.{IsChildAt}

-- a child is the neighbour in the column of a label
pub record IsSubtreeChildAt (p : Polyhedron) (root key : List ℕ) (s : ℕ) (child : List ℕ) : Type 0 where
  pub free : List ℕ
  pub columns : AreFreeColumns (cone_of p) free
  pub child_at : IsChildAt (main_space p free) root key s child

-- a vector is shown at a lexicographically feasible cobasis
abbrev pub IsShownAtCobasis : Polyhedron → List ℕ → List ℕ → Vector → Type 0
IsShownAtCobasis p root key y = (place : Option ℕ) × IsShownAtKey p root key place y
