-- The beginning of phase one: t comes, and the row of least constant takes its place.
use Rattle.std.specs.Prelude.{◌≡◌, ℕ, ◌<◌, List, ◌∷◌, length}
use Rattle.poly_model.specs.declared.overflow.Overflow.{Overflow}
use Rattle.poly_model.specs.declared.overflow.Phase.TheVariants.{First}
use Rattle.poly_model.specs.Limits.{most_labels}
use Rattle.poly_model.specs.Spaces.{Space, lifted}
use Rattle.poly_model.specs.Tree.{IsRowDictionary}
use Rattle.poly_model.specs.PhaseOne.{lowering_root}
use Rattle.search_laws.specs.PhaseOne.{HasNoRowZero}
use Rattle.dictionary.specs.Views.{Dictionary, table_of, CanPivot, IsDictionaryIn, IsOverflow}
use Rattle.phase_one.specs.Lowering.{MayLower, IsOnDescent}

-- the dictionary of a start cobasis of the space, to which t can be added
pub record IsStart (space : Space) (d : Dictionary) : Type 0 where
  pub none : HasNoRowZero space
  pub labels : d.labels ≡ space.labels
  pub dictionary : IsRowDictionary space d.key (table_of d)
  pub room : length d.key < most_labels

-- row r has taken the place of t beside the start cobasis: there lowering begins
pub record IsAtFirstRoot (space : Space) (start : List ℕ) (r : ℕ) (d : Dictionary) : Type 0 where
  pub key : d.key ≡ lowering_root start r
  pub may : MayLower (lifted space start) d.key
  pub reached : IsOnDescent (lifted space start) d.key d

-- it cannot, since a number passes
pub record StopsBeginning (space : Space) (start : List ℕ) (r : ℕ) (o : Overflow) : Type 0 where
  pub at : Dictionary
  pub phase : at.phase ≡ First
  pub dictionary : IsDictionaryIn (lifted space start) at
  pub key : at.key ≡ 0 ∷ start
  pub can : CanPivot at r 0
  pub overflow : IsOverflow at r 0 o
