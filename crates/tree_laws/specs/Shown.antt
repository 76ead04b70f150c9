-- The extreme vectors of a space are what is shown at the lexicographically feasible cobases, each at exactly one.
use Rattle.std.specs.Prelude.{◌≡◌, ℕ, List, Option}
use Rattle.poly_num.specs.Vectors.{Vector}
use Rattle.poly_model.specs.Spaces.{Space}
use Rattle.poly_model.specs.Dictionaries.{Table}
use Rattle.poly_model.specs.LexOrder.{rows_in}
use Rattle.poly_model.specs.Tree.{IsFeasibleRoot, IsLexFeasible, IsShownAt, IsExtremeIn}
use Rattle.linear_laws.specs.Distinct.{AreDistinct}

-- y is shown at a lexicographically feasible cobasis, as its point or along a column, and nowhere else at any
pub record IsShownOnce (space : Space) (root : List ℕ) (y : Vector) : Type 0 where
  pub key : List ℕ
  pub table : Table
  pub place : Option ℕ
  pub feasible : IsLexFeasible space root key table
  pub shown : IsShownAt space root key table place y
  pub only : (other : List ℕ) (u : Table) (p : Option ℕ) → IsLexFeasible space root other u →
      IsShownAt space root other u p y → (other ≡ key) × (p ≡ place)

-- each extreme vector is
abbrev pub EachIsShownOnce : Type 0
EachIsShownOnce =
    (space : Space) (root : List ℕ) (home : Table) → IsFeasibleRoot space root home →
    AreDistinct (rows_in space.labels) →
    (y : Vector) → IsExtremeIn space y → IsShownOnce space root y

-- and nothing else is shown
abbrev pub OnlyExtremeIsShown : Type 0
OnlyExtremeIsShown =
    (space : Space) (root key : List ℕ) (t : Table) (p : Option ℕ) (y : Vector) → IsLexFeasible space root key t →
    IsShownAt space root key t p y → IsExtremeIn space y
