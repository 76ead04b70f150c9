-- Which vector is shown along which column of a cobasis: each extreme vector that is 0 at infinity, along one.
use Rattle.std.specs.Prelude.{◌≡◌, ℕ, pos, List, map, Some}
use Rattle.std.specs.List.{Contains}
use Rattle.poly_num.specs.Vectors.{Vector, ◌·◌}
use Rattle.poly_model.specs.Spaces.{Space}
use Rattle.poly_model.specs.Dictionaries.{Table}
use Rattle.poly_model.specs.LexOrder.{IsNonnegative, rows_in}
use Rattle.poly_model.specs.Tree.{IsRowDictionary, IsFeasibleRoot, IsLexFeasible, ShowsRay, IsAlongColumn, IsShownAt, IsExtremeIn}

-- what the ray test shows is an extreme vector of the space, which is 0 at infinity
abbrev pub ShownRayIsExtreme : Type 0
ShownRayIsExtreme =
    (space : Space) (root key : List ℕ) (t : Table) (s : ℕ) (y : Vector) → IsRowDictionary space key t →
    ShowsRay space.labels root key t s → IsAlongColumn space key s y → IsExtremeIn space y

-- along a column of a cobasis there is one primitive vector at which its label is positive
pub record HasOneRay (space : Space) (key : List ℕ) (s : ℕ) : Type 0 where
  pub vector : Vector
  pub along : IsAlongColumn space key s vector
  pub only : (y : Vector) → IsAlongColumn space key s y → y ≡ vector

abbrev pub CobasisHasOneRay : Type 0
CobasisHasOneRay =
    (space : Space) (key : List ℕ) (t : Table) (s : ℕ) → IsRowDictionary space key t → Contains key s →
    HasOneRay space key s

-- a vector is shown along one column of one lexicographically feasible cobasis at most
abbrev pub ShownRayIsOne : Type 0
ShownRayIsOne =
    (space : Space) (root key other : List ℕ) (home t u : Table) (s r : ℕ) (y : Vector) →
    IsRowDictionary space root home → IsLexFeasible space root key t → IsLexFeasible space root other u →
    IsShownAt space root key t (Some s) y → IsShownAt space root other u (Some r) y → (key ≡ other) × (s ≡ r)

-- where a descent along these rows ends: at a lexicographically feasible cobasis in no column of which the first of
-- them that is not 0 there is negative
pub record HasEndAlong (space : Space) (root qs : List ℕ) : Type 0 where
  pub key : List ℕ
  pub table : Table
  pub feasible : IsLexFeasible space root key table
  pub columns : (c : ℕ) → Contains key c → IsNonnegative (map (λ q. table.entry q c) qs)

-- there is one for any rows, once some cobasis is lexicographically feasible
abbrev pub DescendsAlongRows : Type 0
DescendsAlongRows =
    (space : Space) (root key : List ℕ) (home t : Table) → IsRowDictionary space root home →
    IsLexFeasible space root key t → (qs : List ℕ) → ((q : ℕ) → Contains qs q → Contains (rows_in space.labels) q) →
    HasEndAlong space root qs

-- y is shown along a column of a lexicographically feasible cobasis, and along no other column of any
pub record IsRayOnce (space : Space) (root : List ℕ) (y : Vector) : Type 0 where
  pub key : List ℕ
  pub table : Table
  pub column : ℕ
  pub feasible : IsLexFeasible space root key table
  pub shown : IsShownAt space root key table (Some column) y
  pub only : (other : List ℕ) (u : Table) (r : ℕ) → IsLexFeasible space root other u →
      IsShownAt space root other u (Some r) y → (other ≡ key) × (r ≡ column)

-- each extreme vector that is 0 at infinity is
abbrev pub ExtremeRayIsShownOnce : Type 0
ExtremeRayIsShownOnce =
    (space : Space) (root : List ℕ) (home : Table) → IsFeasibleRoot space root home → (y : Vector) →
    IsExtremeIn space y → space.infinity · y ≡ pos 0 → IsRayOnce space root y
