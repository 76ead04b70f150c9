-- Reverse search is complete, and shows nothing twice: the laws of the tree of cobases under one root.
use Rattle.std.specs.Prelude.{◌≡◌, ℕ, List, Option}
use Rattle.poly_num.specs.Vectors.{Vector}
use Rattle.poly_model.specs.Systems.{Polyhedron}
use Rattle.poly_model.specs.Spaces.{Space, main_space, lifted}
use Rattle.poly_model.specs.Dictionaries.{Table}
use Rattle.poly_model.specs.LexOrder.{rows_in}
use Rattle.poly_model.specs.Tree.{IsFeasibleRoot, IsLexFeasible, IsNeighbour, IsParent, IsAbove, IsUnder, IsShownAt, IsExtremeIn}
use Rattle.linear_laws.specs.Distinct.{AreDistinct}
use Rattle.tree_laws.specs.Laws.{IsFeasibleNeighbour}
use Rattle.tree_laws.specs.Parents.{IsRootOrChild}
use Rattle.tree_laws.specs.Shown.{IsShownOnce}

-- the lexicographically feasible cobases are a tree under the root, in which each extreme vector is shown once
pub record IsSearched (space : Space) (root : List ℕ) (home : Table) : Type 0 where
  -- the root is one of them, and alone has no parent
  pub root_feasible : IsLexFeasible space root root home
  pub root_or_child : (key : List ℕ) (t : Table) → IsLexFeasible space root key t → IsRootOrChild space root key t
  -- a parent is one of them again, there is one, and it has the child as its neighbour
  pub parent_feasible : (key parent : List ℕ) (t : Table) → IsLexFeasible space root key t →
      IsParent space.labels root key t parent → IsFeasibleNeighbour space root parent
  pub one_parent : (key parent other : List ℕ) (t u : Table) → IsLexFeasible space root key t →
      IsLexFeasible space root key u → IsParent space.labels root key t parent →
      IsParent space.labels root key u other →
      parent ≡ other
  pub child_is_neighbour : (key parent : List ℕ) (t u : Table) → IsLexFeasible space root key t →
      IsLexFeasible space root parent u → (p : IsParent space.labels root key t parent) →
      (back : IsNeighbour space.labels root parent u p.neighbour.r key) × (back.r ≡ p.s)
  -- each of them is under the root, at one depth
  pub under_the_root : (key : List ℕ) (t : Table) → IsLexFeasible space root key t → IsUnder space root key root
  pub one_depth : (key : List ℕ) (t : Table) → IsLexFeasible space root key t → (m n : ℕ) →
      IsAbove space root m key root → IsAbove space root n key root → m ≡ n
  -- what they show are the extreme vectors, each at one place of one of them
  pub each_once : (y : Vector) → IsExtremeIn space y → IsShownOnce space root y
  pub only_extreme : (key : List ℕ) (t : Table) (place : Option ℕ) (y : Vector) → IsLexFeasible space root key t →
      IsShownAt space root key t place y → IsExtremeIn space y

-- under every feasible root, in a space where each row stands once
abbrev pub ReverseSearch : Type 0
ReverseSearch =
    (space : Space) (root : List ℕ) (home : Table) → AreDistinct (rows_in space.labels) →
    IsFeasibleRoot space root home →
    IsSearched space root home

-- so it is in the spaces in which a polyhedron is searched, of the phases main and first
pub record SearchesPolyhedron (p : Polyhedron) (free : List ℕ) : Type 0 where
  pub main : (root : List ℕ) (home : Table) → IsFeasibleRoot (main_space p free) root home →
      IsSearched (main_space p free) root home
  pub first : (start root : List ℕ) (home : Table) → IsFeasibleRoot (lifted (main_space p free) start) root home →
      IsSearched (lifted (main_space p free) start) root home

abbrev pub ReverseSearchOfPolyhedra : Type 0
ReverseSearchOfPolyhedra =
    (p : Polyhedron) (free : List ℕ) → SearchesPolyhedron p free
