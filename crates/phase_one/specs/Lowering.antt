-- Lowering t: the dictionaries on the way from the first root, and where a pivot stops it.
use Rattle.std.specs.Prelude.{◌≡◌, ℕ, List}
use Rattle.std.specs.List.{Contains}
use Rattle.poly_model.specs.declared.overflow.Overflow.{Overflow}
use Rattle.poly_model.specs.declared.overflow.Phase.TheVariants.{First}
use Rattle.poly_model.specs.Keys.{IsAscending}
use Rattle.poly_model.specs.Spaces.{Space}
use Rattle.poly_model.specs.Dictionaries.{Table}
use Rattle.poly_model.specs.Tree.{IsFeasibleRoot, IsLexFeasible, Leaves}
use Rattle.poly_model.specs.Lowering.{IsDescent, IsLowest}
use Rattle.dictionary.specs.Views.{Dictionary, table_of, IsPivot, IsOverflow}

-- the labels of the space ascend, t is one, and the root is feasible: steps from it end
pub record MayLower (first : Space) (root : List ℕ) : Type 0 where
  pub ascending : IsAscending first.labels
  pub t : Contains first.labels 0
  pub home : Table
  pub feasible : IsFeasibleRoot first root home

-- lowering steps lead from the root to the cobasis of d, which is lexicographically feasible
pub record IsOnDescent (first : Space) (root : List ℕ) (d : Dictionary) : Type 0 where
  pub phase : d.phase ≡ First
  pub labels : d.labels ≡ first.labels
  pub feasible : IsLexFeasible first root d.key (table_of d)
  pub steps : ℕ
  pub descent : IsDescent first root 0 steps root d.key

-- and no step leads on
pub record IsAtLowest (first : Space) (root : List ℕ) (d : Dictionary) : Type 0 where
  pub reached : IsOnDescent first root d
  pub lowest : IsLowest d.key (table_of d) 0

-- the row of the ratio test has taken the place of s
pub record IsStep (d : Dictionary) (root : List ℕ) (s : ℕ) (new : Dictionary) : Type 0 where
  pub r : ℕ
  pub leaves : Leaves d.labels root d.key (table_of d) s r
  pub pivot : IsPivot d r s new

-- it cannot, since a number passes
pub record StopsStep (d : Dictionary) (root : List ℕ) (s : ℕ) (o : Overflow) : Type 0 where
  pub column : Contains d.key s
  pub r : ℕ
  pub leaves : Leaves d.labels root d.key (table_of d) s r
  pub overflow : IsOverflow d r s o

-- so it is at a dictionary on the way
pub record StopsLowering (first : Space) (root : List ℕ) (o : Overflow) : Type 0 where
  pub at : Dictionary
  pub reached : IsOnDescent first root at
  pub s : ℕ
  pub stops : StopsStep at root s o
