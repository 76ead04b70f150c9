-- A work by subtrees that is made, and why a pivot of it is asked for.
use Rattle.std.specs.Prelude.{◌≡◌, ◌⊎◌, ℕ, List}
use Rattle.poly_num.specs.Vectors.{Vector}
use Rattle.poly_model.specs.declared.kind.WorkKind.TheVariants.{Subtrees}
use Rattle.poly_model.specs.declared.overflow.Overflow.{Overflow as Passed}
use Rattle.poly_model.specs.Systems.{System, Polyhedron, cone_of}
use Rattle.poly_model.specs.FreeColumns.{AreFreeColumns}
use Rattle.poly_model.specs.Spaces.{IsStartCobasis, main_space}
use Rattle.poly_model.specs.Subtrees.{IsSubtreeRoot, IsSubtreeKey}
use Rattle.poly_model.specs.Overflows.{Passes}
use Rattle.poly_model.specs.Due.{IsDue, IsAskedInMain, IsAskedOnTheWay}
use Rattle.reverse_step.specs.Walks.{Walk}
use Rattle.convert_core.specs.declared.rays.Rays.{Rays}
use Rattle.convert_core.specs.Searches.{IsSearch}
use Rattle.work_core.specs.Searches.{Search, MayBegin}

-- the cone, the root, and the key of the cobasis where the walk stands
pub record BySubtrees : Type 0 where
  pub sys : System
  pub root : List ℕ
  pub at : List ℕ

-- there is a polyhedron with this cone, and of each the walk is one through the cobases of its main space
pub record IsSearchOfEach (sys : System) (rays : Rays) (walk : Walk) (vector : Vector) : Type 0 where
  pub file : (p : Polyhedron) × (sys ≡ cone_of p)
  pub each : (p : Polyhedron) → sys ≡ cone_of p → IsSearch p sys rays walk vector

-- it is a search of this cone, and its walk is one under this root
pub record IsSearchUnder (sys : System) (root : List ℕ) (cone : System) (rays : Rays) (walk : Walk) (vector : Vector) : Type 0 where
  pub search : IsSearchOfEach cone rays walk vector
  pub same_cone : cone ≡ sys
  pub same_root : walk.root ≡ root

-- of no polyhedron with this cone does a search begin at the root
abbrev pub IsNoRootOf : System → List ℕ → Type 0
IsNoRootOf sys root = (p : Polyhedron) → sys ≡ cone_of p → IsSubtreeRoot p root → ⊥

-- it is the work of this search, which may begin at its root
pub record IsBySubtrees (made : BySubtrees) (s : Search) : Type 0 where
  pub work : s.work ≡ Subtrees
  pub root : s.root ≡ made.root
  pub file : made.sys ≡ cone_of s.polyhedron
  pub begins : MayBegin s

-- ---- pivots that are asked for
-- on the way to the key from another one, where the walk stands
pub record IsAskedForKey (made : BySubtrees) (s : Search) (key : List ℕ) (o : Passed) (passes : Passes s.polyhedron o) : Type 0 where
  pub stands : IsSubtreeKey s.polyhedron made.root made.at
  pub way : IsAskedOnTheWay s.polyhedron made.at key o passes

-- in a run also at a lexicographically feasible cobasis
abbrev pub IsAskedInRun : BySubtrees → (s : Search) → List ℕ → (o : Passed) → Passes s.polyhedron o → Type 0
IsAskedInRun made s key o passes = IsAskedForKey made s key o passes ⊎ IsAskedInMain s.polyhedron made.root o passes

-- a pivot on the way from the start cobasis to the root cannot be carried out, since a number passes
pub record IsDueOnWayToRoot (p : Polyhedron) (root : List ℕ) (o : Passed) : Type 0 where
  pub free : List ℕ
  pub columns : AreFreeColumns (cone_of p) free
  pub start : List ℕ
  pub is_start : IsStartCobasis (main_space p free) start
  pub due : IsDue p o (IsAskedOnTheWay p start root o)
