-- What steps that lower a row come to: the row falls, and the steps end at one cobasis.
use Rattle.std.specs.Prelude.{◌≡◌, ◌⊎◌, ℕ, ◌^◌, ◌≤◌, pos, ◌<ℤ◌, List, length}
use Rattle.std.specs.List.{Contains}
use Rattle.poly_model.specs.Spaces.{Space}
use Rattle.poly_model.specs.Dictionaries.{Table, IsDictionary}
use Rattle.poly_model.specs.LexOrder.{IsPositive, gaps, rows_in, list_of}
use Rattle.poly_model.specs.Tree.{IsRowDictionary, IsLexFeasible, IsNeighbour}
use Rattle.poly_model.specs.Lowering.{IsLoweringStep, IsLowest, IsDescent}
use Rattle.linear_laws.specs.Distinct.{AreDistinct}

-- in a column in which row q is negative there is a neighbour. Where it is feasible, q is in its key, or the list of q
-- over the denominator is less there
pub record LowersRow (space : Space) (root key : List ℕ) (t : Table) (q s : ℕ) : Type 0 where
  pub some : (new : List ℕ) × IsNeighbour space.labels root key t s new
  pub falls : (new : List ℕ) (u : Table) → IsNeighbour space.labels root key t s new → IsLexFeasible space root new u →
      Contains new q
      ⊎ IsPositive (gaps u.denominator (list_of space.labels root key t q) t.denominator
      (list_of space.labels root new u q))

abbrev pub NeighboursLowerRow : Type 0
NeighboursLowerRow =
    (space : Space) (root key : List ℕ) (t : Table) → IsRowDictionary space key t → (q s : ℕ) →
    Contains (rows_in space.labels) q → Contains key s → t.entry q s <ℤ pos 0 → LowersRow space root key t q s

-- a row is lowest where it is in the key, with the constant 0
abbrev pub RowInKeyIsLowest : Type 0
RowInKeyIsLowest =
    (space : Space) (key : List ℕ) (t : Table) → IsRowDictionary space key t → (q : ℕ) → Contains key q →
    IsLowest key t q × (t.constant q ≡ pos 0)

-- elsewhere a step leads on
abbrev pub StepOrLowest : Type 0
StepOrLowest =
    (space : Space) (root key : List ℕ) (t : Table) → IsRowDictionary space key t → (q : ℕ) →
    Contains (rows_in space.labels) q →
    IsLowest key t q ⊎ ((new : List ℕ) × IsLoweringStep space.labels root q key t new)

-- the steps end, at a feasible cobasis, and are no more than `most`
pub record EndsWithin (space : Space) (root : List ℕ) (q most : ℕ) (key : List ℕ) : Type 0 where
  pub steps : ℕ
  pub few : steps ≤ most
  pub end : List ℕ
  pub table : Table
  pub feasible : IsLexFeasible space root end table
  pub lowest : IsLowest end table q
  pub descent : IsDescent space root q steps key end

-- they are no more than there are sets of rows
abbrev pub HasEnd : Space → List ℕ → ℕ → List ℕ → Type 0
HasEnd space root q key = EndsWithin space root q (2 ^ length (rows_in space.labels)) key

abbrev pub StepsEnd : Type 0
StepsEnd =
    (space : Space) (root key : List ℕ) (home t : Table) → IsRowDictionary space root home →
    IsLexFeasible space root key t → (q : ℕ) → Contains (rows_in space.labels) q → HasEnd space root q key

-- at one key and after one number of steps, where each row stands once
abbrev pub OneEnd : Type 0
OneEnd =
    (space : Space) (root key : List ℕ) (home t : Table) → AreDistinct (rows_in space.labels) →
    IsRowDictionary space root home → IsLexFeasible space root key t → (q : ℕ) → Contains (rows_in space.labels) q →
    (end : HasEnd space root q key) (steps : ℕ) (other : List ℕ) (u : Table) → IsDictionary space other u →
    IsLowest other u q → IsDescent space root q steps key other → (steps ≡ end.steps) × (other ≡ end.end)
