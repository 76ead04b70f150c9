-- At which key a vector is shown, for each work.
use Rattle.std.specs.Prelude.{◌≡◌, ℕ, ◌+◌, ◌≤◌, List, ◌++◌, length}
use Rattle.poly_num.specs.Vectors.{Vector}
use Rattle.poly_model.specs.Limits.{most_labels}
use Rattle.poly_model.specs.Systems.{Polyhedron, cone_of}
use Rattle.poly_model.specs.Extreme.{IsExtreme}
use Rattle.poly_model.specs.Subtrees.{IsSubtreeRoot}
use Rattle.work_core.specs.Subsets.{IsReducedDimension, IsSubsetKey, IsListOf, IsShownAtList}
use Rattle.work_core.specs.Subtrees.{IsShownAtCobasis}
use Rattle.work_core.specs.Searches.{by_subsets, by_subtrees}
use Rattle.work_core.specs.Walks.{ShowsAt, WalksSplit}

-- ---- subsets
-- there is one reduced dimension
abbrev pub HasOneDimension : Type 0
HasOneDimension =
    (p : Polyhedron) → (r : ℕ) × IsReducedDimension p r × ((q : ℕ) → IsReducedDimension p q → q ≡ r)

-- y has one list, one shorter than the reduced dimension; each beginning of it is a key
pub record HasOneList (p : Polyhedron) (y : Vector) : Type 0 where
  pub list : List ℕ
  pub is : IsListOf p y list
  pub only : (other : List ℕ) → IsListOf p y other → other ≡ list
  pub long : (r : ℕ) → IsReducedDimension p r → length list + 1 ≡ r
  pub keys : (front rest : List ℕ) → list ≡ front ++ rest → IsSubsetKey p front

-- a key has room for a list where there are no more columns than labels of a key
abbrev pub HaveOneList : Type 0
HaveOneList = (p : Polyhedron) → p.n ≤ most_labels → (y : Vector) → IsExtreme (cone_of p) y → HasOneList p y

abbrev pub SubsetsShow : Type 0
SubsetsShow = (p : Polyhedron) → p.n ≤ most_labels → ShowsAt (by_subsets p) (IsShownAtList p)

abbrev pub SubsetWalksSplit : Type 0
SubsetWalksSplit = (p : Polyhedron) → p.n ≤ most_labels → WalksSplit (by_subsets p) (IsShownAtList p)

-- ---- subtrees
abbrev pub SubtreesShow : Type 0
SubtreesShow =
    (p : Polyhedron) (root : List ℕ) → IsSubtreeRoot p root → ShowsAt (by_subtrees p root) (IsShownAtCobasis p root)

abbrev pub SubtreeWalksSplit : Type 0
SubtreeWalksSplit =
    (p : Polyhedron) (root : List ℕ) → IsSubtreeRoot p root → WalksSplit (by_subtrees p root) (IsShownAtCobasis p root)
