-- Which vector is shown as the point of which cobasis: each extreme vector that is positive at infinity, at one.
use Rattle.std.specs.Prelude.{◌≡◌, ℕ, pos, ◌<ℤ◌, List, None}
use Rattle.poly_num.specs.Vectors.{Vector, ◌·◌}
use Rattle.poly_model.specs.Spaces.{Space}
use Rattle.poly_model.specs.Dictionaries.{Table}
use Rattle.poly_model.specs.LexOrder.{rows_in}
use Rattle.poly_model.specs.Tree.{IsRowDictionary, IsFeasibleRoot, IsLexFeasible, ShowsPoint, IsAtPoint, IsShownAt, IsExtremeIn}
use Rattle.linear_laws.specs.Distinct.{AreDistinct}

-- at a lexicographically feasible cobasis no constant of a row is negative
abbrev pub ConstantsAreNotNegative : Type 0
ConstantsAreNotNegative =
    (space : Space) (root key : List ℕ) (t : Table) → IsLexFeasible space root key t → IsFeasibleRoot space key t

-- where no constant is negative and the point test holds, the cobasis is lexicographically feasible under the root
abbrev pub ShownPointIsFeasible : Type 0
ShownPointIsFeasible =
    (space : Space) (root key : List ℕ) (home t : Table) → IsRowDictionary space root home →
    IsFeasibleRoot space key t → ShowsPoint space.labels root key t → IsLexFeasible space root key t

-- the labels of a cobasis are 0 at one point of the space, which is written by one primitive vector
pub record HasOnePoint (space : Space) (key : List ℕ) : Type 0 where
  pub vector : Vector
  pub at : IsAtPoint space key vector
  pub only : (y : Vector) → IsAtPoint space key y → y ≡ vector

abbrev pub CobasisHasOnePoint : Type 0
CobasisHasOnePoint =
    (space : Space) (key : List ℕ) (t : Table) → IsRowDictionary space key t → HasOnePoint space key

-- where no constant is negative, the point is an extreme vector of the space
abbrev pub ShownPointIsExtreme : Type 0
ShownPointIsExtreme =
    (space : Space) (key : List ℕ) (t : Table) (y : Vector) → IsFeasibleRoot space key t → IsAtPoint space key y →
    IsExtremeIn space y

-- y is shown as the point of a lexicographically feasible cobasis, and as that of no other cobasis
pub record IsPointOnce (space : Space) (root : List ℕ) (y : Vector) : Type 0 where
  pub key : List ℕ
  pub table : Table
  pub feasible : IsLexFeasible space root key table
  pub shown : IsShownAt space root key table None y
  pub only : (other : List ℕ) (u : Table) → IsRowDictionary space other u → IsShownAt space root other u None y →
      other ≡ key

-- each extreme vector that is positive at infinity is. Were a row twice among the rows, it would be before another and
-- after it, and the point test could fail at every cobasis
abbrev pub ExtremePointIsShownOnce : Type 0
ExtremePointIsShownOnce =
    (space : Space) (root : List ℕ) (home : Table) → IsRowDictionary space root home →
    AreDistinct (rows_in space.labels) →
    (y : Vector) → IsExtremeIn space y → pos 0 <ℤ (space.infinity · y) → IsPointOnce space root y
