-- Overflows that are due: a product passes, and it is that of a pivot which the search cannot do without.
use Rattle.std.specs.Prelude.{◌≡◌, ◌⊎◌, ℕ, true, List, ◌∷◌}
use Rattle.std.specs.List.{Contains}
use Rattle.poly_model.specs.declared.overflow.Overflow.{Overflow}
use Rattle.poly_model.specs.declared.overflow.Phase.TheVariants.{Prepare, Main, First}
use Rattle.poly_model.specs.Labels.{IsCoordinate}
use Rattle.poly_model.specs.Systems.{row_of, Polyhedron, cone_of}
use Rattle.poly_model.specs.FreeColumns.{AreFreeColumns}
use Rattle.poly_model.specs.Spaces.{IsStartCobasis, main_space}
use Rattle.poly_model.specs.Dictionaries.{Table}
use Rattle.poly_model.specs.Tree.{IsRowDictionary, IsLexFeasible, Leaves}
use Rattle.poly_model.specs.PhaseOne.{IsFirstWorst, lowering_root}
use Rattle.poly_model.specs.Equations.{AreConsistent}
use Rattle.poly_model.specs.Overflows.{Passes}

-- a product passes, of a pivot that is asked for
pub record IsDue (p : Polyhedron) (o : Overflow) (IsAsked : Passes p o → Type 0) : Type 0 where
  pub passes : Passes p o
  pub asked : IsAsked passes

-- ---- before a search
-- a row that enters there: a linear one; or one of the start cobasis, and the equations have a common point
abbrev pub IsEntering : Polyhedron → List ℕ → ℕ → Type 0
IsEntering p start i =
    ((row_of (cone_of p).rows i).linear ≡ true) ⊎ (AreConsistent p × Contains start i)

-- such a row enters in the place of a coordinate, and beside coordinates there are only such rows in the cobasis
pub record IsAskedBefore (p : Polyhedron) (o : Overflow) (passes : Passes p o) : Type 0 where
  pub phase : o.phase ≡ Prepare
  pub free : List ℕ
  pub columns : AreFreeColumns (cone_of p) free
  pub start : List ℕ
  pub is_start : IsStartCobasis (main_space p free) start
  pub row : IsEntering p start passes.r
  pub column : IsCoordinate passes.s
  pub labels : (k : ℕ) → Contains o.key k → IsCoordinate k ⊎ IsEntering p start k

-- ---- in phase one
-- of a start cobasis that is not feasible: the first exchange, for t; or a later one, of the row of the ratio test or of t
pub record IsAskedInFirst (p : Polyhedron) (o : Overflow) (passes : Passes p o) : Type 0 where
  pub phase : o.phase ≡ First
  pub free : List ℕ
  pub columns : AreFreeColumns (cone_of p) free
  pub start : List ℕ
  pub is_start : IsStartCobasis (main_space p free) start
  pub home : Table
  pub dictionary : IsRowDictionary (main_space p free) start home
  pub worst : ℕ
  pub is_worst : IsFirstWorst (main_space p free) start home worst
  pub pivot : ((o.key ≡ 0 ∷ start) × (passes.r ≡ worst) × (passes.s ≡ 0))
      ⊎ (IsLexFeasible passes.space (lowering_root start worst) o.key passes.table
      × ((passes.r ≡ 0)
      ⊎ Leaves passes.space.labels (lowering_root start worst) o.key passes.table passes.s
      passes.r))

-- ---- in the search
-- the row of the ratio test enters a lexicographically feasible cobasis
pub record IsAskedInMain (p : Polyhedron) (root : List ℕ) (o : Overflow) (passes : Passes p o) : Type 0 where
  pub phase : o.phase ≡ Main
  pub feasible : IsLexFeasible passes.space root o.key passes.table
  pub leaves : Leaves passes.space.labels root o.key passes.table passes.s
      passes.r

-- on the way from one key to another: the labels are of these, the row is of the second, and the column is not
pub record IsAskedOnTheWay (p : Polyhedron) (from to : List ℕ) (o : Overflow) (passes : Passes p o) : Type 0 where
  pub phase : o.phase ≡ Main
  pub labels : (k : ℕ) → Contains o.key k → Contains from k ⊎ Contains to k
  pub row : Contains to passes.r
  pub column : Contains to passes.s → ⊥
