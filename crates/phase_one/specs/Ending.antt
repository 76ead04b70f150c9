-- The end of phase one: t is lowered, comes back where it is 0, and goes.
use Rattle.std.specs.Prelude.{◌≡◌, ◌⊎◌, ℕ, List, ◌∷◌}
use Rattle.std.specs.List.{Contains}
use Rattle.poly_model.specs.declared.overflow.Overflow.{Overflow}
use Rattle.poly_model.specs.declared.overflow.Phase.TheVariants.{First, Main}
use Rattle.poly_model.specs.Spaces.{Space, lifted}
use Rattle.poly_model.specs.Dictionaries.{Table, IsDictionary}
use Rattle.poly_model.specs.Tree.{IsRowDictionary, IsLexFeasible, Leaves}
use Rattle.poly_model.specs.Lowering.{IsLowest, IsDescent}
use Rattle.poly_model.specs.PhaseOne.{IsLastExchange}
use Rattle.search_laws.specs.PhaseOne.{HasNoRowZero}
use Rattle.dictionary.specs.Views.{Dictionary, table_of, CanPivot, IsDictionaryIn, IsPivot, IsOverflow}
use Rattle.phase_one.specs.declared.least.Sought.TheVariants.{Nonzero}
use Rattle.phase_one.specs.Columns.{IsLeastAmong}
use Rattle.phase_one.specs.Lowering.{MayLower, IsOnDescent}

-- the dictionary is on the way from the root in the space with t
pub record IsOnTheWay (space : Space) (start root : List ℕ) (d : Dictionary) : Type 0 where
  pub none : HasNoRowZero space
  pub may : MayLower (lifted space start) root
  pub reached : IsOnDescent (lifted space start) root d

-- steps lead from the root to a cobasis where t is lowest; what is left of it, or of the last exchange, without t is the
-- cobasis of d
pub record IsEnded (space : Space) (start root : List ℕ) (d : Dictionary) : Type 0 where
  pub phase : d.phase ≡ Main
  pub dictionary : IsDictionaryIn space d
  pub steps : ℕ
  pub end : List ℕ
  pub descent : IsDescent (lifted space start) root 0 steps root end
  pub table : Table
  pub end_dictionary : IsDictionary (lifted space start) end table
  pub lowest : IsLowest end table 0
  pub last : (end ≡ 0 ∷ d.key) ⊎ IsLastExchange (lifted space start).labels root end table (0 ∷ d.key)

-- a pivot on the way cannot be carried out, since a number passes: that of the ratio test, or the one that brings t back
pub record StopsEnding (space : Space) (start root : List ℕ) (o : Overflow) : Type 0 where
  pub at : Dictionary
  pub phase : at.phase ≡ First
  pub dictionary : IsDictionaryIn (lifted space start) at
  pub feasible : IsLexFeasible (lifted space start) root at.key (table_of at)
  pub r : ℕ
  pub s : ℕ
  pub can : CanPivot at r s
  pub overflow : IsOverflow at r s o
  pub row : (r ≡ 0) ⊎ Leaves (lifted space start).labels root at.key (table_of at) s r

-- ---- the last exchange
-- the dictionary is one of the space with t, which is outside the cobasis
pub record HasTOutside (space : Space) (start : List ℕ) (d : Dictionary) : Type 0 where
  pub labels : d.labels ≡ (lifted space start).labels
  pub dictionary : IsRowDictionary (lifted space start) d.key (table_of d)
  pub outside : Contains d.key 0 → ⊥

-- t has taken the place of the least column in which it is not 0
pub record IsBroughtBack (d : Dictionary) (root : List ℕ) (new : Dictionary) : Type 0 where
  pub s : ℕ
  pub column : IsLeastAmong d root Nonzero d.key s
  pub pivot : IsPivot d 0 s new

-- it cannot, since a number passes
pub record StopsComingBack (d : Dictionary) (o : Overflow) : Type 0 where
  pub s : ℕ
  pub can : CanPivot d 0 s
  pub overflow : IsOverflow d 0 s o
