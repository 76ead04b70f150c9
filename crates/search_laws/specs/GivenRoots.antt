-- The root that phase one gives: it is feasible, it is one, and there is one exactly where some vector meets all rows;
-- and so the root of the search of a polyhedron.
use Rattle.std.specs.Prelude.{◌≡◌, ◌↔◌, ℕ, List, length}
use Rattle.poly_model.specs.Systems.{Polyhedron, cone_of}
use Rattle.poly_model.specs.Extreme.{IsFeasible}
use Rattle.poly_model.specs.Spaces.{Space}
use Rattle.poly_model.specs.Dictionaries.{Table}
use Rattle.poly_model.specs.LexOrder.{rows_in}
use Rattle.poly_model.specs.Tree.{IsRowDictionary, IsFeasibleRoot}
use Rattle.poly_model.specs.PhaseOne.{GivesByPhaseOne, IsSearchRoot}
use Rattle.poly_model.specs.Subtrees.{IsSubtreeRoot}
use Rattle.poly_model.specs.Labels.{IsRow}
use Rattle.linear_laws.specs.Distinct.{AreDistinct}
use Rattle.search_laws.specs.PhaseOne.{HasNoRowZero, MeetsRows}

-- what phase one gives has a dictionary at which no constant is negative
abbrev pub GivenRootIsFeasible : Type 0
GivenRootIsFeasible =
    (space : Space) (start root : List ℕ) → HasNoRowZero space → GivesByPhaseOne space start root →
    (home : Table) × IsFeasibleRoot space root home

-- it is one, where each row stands once
abbrev pub GivenRootIsOne : Type 0
GivenRootIsOne =
    (space : Space) (start root other : List ℕ) → HasNoRowZero space → AreDistinct (rows_in space.labels) →
    GivesByPhaseOne space start root → GivesByPhaseOne space start other → root ≡ other

-- from a start cobasis with a dictionary it gives one exactly where some vector meets all rows
abbrev pub GivesRootWhereMet : Type 0
GivesRootWhereMet =
    (space : Space) (start : List ℕ) (t : Table) → HasNoRowZero space → IsRowDictionary space start t →
    ((root : List ℕ) × GivesByPhaseOne space start root) ↔ MeetsRows space

-- ---- polyhedra
-- a polyhedron has a root of its search exactly where its file is feasible; a search may begin there, and it is one
pub record HasSearchRoot (p : Polyhedron) : Type 0 where
  pub exactly : ((root : List ℕ) × IsSearchRoot p root) ↔ IsFeasible (cone_of p)
  pub may_begin : (root : List ℕ) → IsSearchRoot p root → IsSubtreeRoot p root
  pub one : (root other : List ℕ) → IsSearchRoot p root → IsSearchRoot p other → root ≡ other

-- each polyhedron does. No label of a row may be that of a coordinate
abbrev pub SearchRoots : Type 0
SearchRoots = (p : Polyhedron) → IsRow (length (cone_of p).rows) → HasSearchRoot p
