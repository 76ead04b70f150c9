-- The way from one key to another: each pivot takes a label of the second into the cobasis, for one that is none of it.
use Rattle.std.specs.Prelude.{◌≡◌, ◌⊎◌, ℕ, Bool, true, false, pos, List, length}
use Rattle.std.specs.List.{Contains}
use Rattle.poly_model.specs.declared.overflow.Overflow.{Overflow}
use Rattle.poly_model.specs.Keys.{IsAscending}
use Rattle.poly_model.specs.Spaces.{Space, HasPoints}
use Rattle.poly_model.specs.Dictionaries.{Table, IsCobasis}
use Rattle.poly_model.specs.LexOrder.{rows_in}
use Rattle.dictionary.specs.Views.{Dictionary, table_of, IsDictionaryIn, CanPivot, IsOverflow}
use Rattle.search_laws.specs.Shares.{IsFeasibleKey}
use Rattle.lex_pivot.specs.Feasible.{AreListsPositive}

-- a dictionary on the way: its key has labels of the two keys alone, and it is that of its cobasis wherever the first is
pub record LiesBetween (from : Dictionary) (to : List ℕ) (now : Dictionary) : Type 0 where
  pub phase : now.phase ≡ from.phase
  pub labels : now.labels ≡ from.labels
  pub width : length now.columns ≡ length from.columns
  pub between : (k : ℕ) → Contains now.key k → Contains from.key k ⊎ Contains to k
  pub dictionary : (space : Space) → HasPoints space → IsDictionaryIn space from → IsDictionaryIn space now

-- label s of the cobasis is none of the key, and r can take its place
pub record GivesWay (d : Dictionary) (to : List ℕ) (r s : ℕ) : Type 0 where
  pub can : CanPivot d r s
  pub column : Contains to s → ⊥

-- none does: r is 0 at each label of the cobasis that is none of the key
abbrev pub NoneGivesWay : Dictionary → List ℕ → ℕ → Type 0
NoneGivesWay d to r = (k : ℕ) → Contains d.key k → (Contains to k → ⊥) → Table.entry (table_of d) r k ≡ pos 0

-- on the way a number passes, in such a pivot of a label of the key
pub record StopsOnTheWay (from : Dictionary) (to : List ℕ) (o : Overflow) : Type 0 where
  pub at : Dictionary
  pub way : LiesBetween from to at
  pub r : ℕ
  pub s : ℕ
  pub row : Contains to r
  pub gives : GivesWay at to r s
  pub overflow : IsOverflow at r s o

-- where d is a dictionary, the key is no cobasis
abbrev pub IsNoCobasis : Dictionary → List ℕ → Type 0
IsNoCobasis d key = (space : Space) → HasPoints space → IsDictionaryIn space d → IsCobasis space key → ⊥

-- true: the label is in the cobasis; false: the key is no cobasis
abbrev pub IsTakenIn : Dictionary → List ℕ → ℕ → Bool → Dictionary → Type 0
IsTakenIn from to label true now = Contains now.key label
IsTakenIn from to label false now = IsNoCobasis from to

-- the same of all labels of the key
abbrev pub AreTakenIn : Dictionary → List ℕ → Bool → Dictionary → Type 0
AreTakenIn from to true now = (k : ℕ) → Contains to k → Contains now.key k
AreTakenIn from to false now = IsNoCobasis from to

-- at the key, which is a lexicographically feasible cobasis of rows wherever the first is one
pub record StandsAtKey (root : List ℕ) (from : Dictionary) (to : List ℕ) (now : Dictionary) : Type 0 where
  pub way : LiesBetween from to now
  pub there : now.key ≡ to
  pub ascending : IsAscending to
  pub rows : (k : ℕ) → Contains to k → Contains (rows_in from.labels) k
  pub lists : AreListsPositive now root

-- where d is a dictionary, the key is no lexicographically feasible cobasis
abbrev pub IsNoFeasibleKey : List ℕ → Dictionary → List ℕ → Type 0
IsNoFeasibleKey root d key = (space : Space) → HasPoints space → IsDictionaryIn space d → IsFeasibleKey space root key → ⊥

-- true: it is reached; false: it is none
abbrev pub Reaches : List ℕ → Dictionary → List ℕ → Bool → Dictionary → Type 0
Reaches root from to true now = StandsAtKey root from to now
Reaches root from to false now = IsNoFeasibleKey root from to
