-- Where a search begins: the start cobasis of the main space, and a feasible root of a feasible file.
use Rattle.std.specs.Prelude.{ℕ, List, length}
use Rattle.poly_model.specs.Systems.{Polyhedron, cone_of}
use Rattle.poly_model.specs.FreeColumns.{AreFreeColumns}
use Rattle.poly_model.specs.Extreme.{IsFeasible}
use Rattle.poly_model.specs.Spaces.{IsStartCobasis, main_space, HasPoints}
use Rattle.poly_model.specs.Dictionaries.{Table}
use Rattle.poly_model.specs.Tree.{IsRowDictionary}
use Rattle.poly_model.specs.Labels.{IsRow}
use Rattle.search_laws.specs.PhaseEnds.{HasRoot}

-- in the main space, where it has a point, the start cobasis has a dictionary. No label of a row may be that of a
-- coordinate
abbrev pub MainHasStart : Type 0
MainHasStart =
    (p : Polyhedron) (free : List ℕ) → AreFreeColumns (cone_of p) free → IsRow (length (cone_of p).rows) →
    HasPoints (main_space p free) → (start : List ℕ) → IsStartCobasis (main_space p free) start →
    (t : Table) × IsRowDictionary (main_space p free) start t

-- so the main space of a feasible file has a feasible root
abbrev pub FeasibleFileHasRoot : Type 0
FeasibleFileHasRoot =
    (p : Polyhedron) (free : List ℕ) → AreFreeColumns (cone_of p) free → IsRow (length (cone_of p).rows) →
    IsFeasible (cone_of p) → HasRoot (main_space p free)
