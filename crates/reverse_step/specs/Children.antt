-- Columns with a child and without.
use Rattle.std.specs.Prelude.{◌≡◌, ℕ, ◌≤◌, ◌<◌, List, length}
use Rattle.std.specs.List.{Contains, slice_index_or}
use Rattle.poly_model.specs.declared.overflow.Overflow.{Overflow}
use Rattle.poly_model.specs.Spaces.{Space}
use Rattle.poly_model.specs.Dictionaries.{Table}
use Rattle.poly_model.specs.Tree.{Leaves, exchanged_key}
use Rattle.dictionary.specs.Views.{Dictionary, table_of, IsOverflow}
use Rattle.search_laws.specs.Shares.{IsChild, IsChildAt}
use Rattle.reverse_step.specs.declared.children.ChildPivot.{ChildPivot}
use Rattle.reverse_step.specs.Walks.{Stands}

-- no child is the neighbour in the column of s
abbrev pub HasNoChildAt : List ℕ → Dictionary → ℕ → Type 0
HasNoChildAt root d s =
    (space : Space) (home : Table) → Stands space home root d → (child : List ℕ) →
    IsChildAt space root d.key s child → ⊥

-- the neighbour in the column of s, where row r leaves, is a child
pub record LeadsToChild (root : List ℕ) (d : Dictionary) (s r : ℕ) : Type 0 where
  pub column : Contains d.key s
  pub leaves : Leaves d.labels root d.key (table_of d) s r
  pub child : (space : Space) (home : Table) → Stands space home root d →
      IsChild space root d.key (exchanged_key d.key s r)

-- the columns from place a up to and without b have no child
abbrev pub NoneBetween : List ℕ → Dictionary → ℕ → ℕ → Type 0
NoneBetween root d a b = (j : ℕ) → a ≤ j → j < b → HasNoChildAt root d (slice_index_or d.key j 0)

-- the first child from place a on
pub record IsFirstChild (root : List ℕ) (d : Dictionary) (a : ℕ) (p : ChildPivot) : Type 0 where
  pub from : a ≤ p.place
  pub within : p.place < length d.key
  pub before : NoneBetween root d a p.place
  pub column : p.col ≡ slice_index_or d.key p.place 0
  pub leads : LeadsToChild root d p.col p.row

-- a number passes in the pivot of a column of the cobasis and the row that leaves there
pub record StopsWalk (d : Dictionary) (root : List ℕ) (o : Overflow) : Type 0 where
  pub s : ℕ
  pub r : ℕ
  pub column : Contains d.key s
  pub leaves : Leaves d.labels root d.key (table_of d) s r
  pub overflow : IsOverflow d r s o
