-- The parent at a dictionary.
use Rattle.std.specs.Prelude.{◌≡◌, ◌↔◌, ℕ, ◌≤◌, Bool, List, Option}
use Rattle.std.specs.List.{All, Contains}
use Rattle.std.specs.Option.{IsNone}
use Rattle.poly_model.specs.Spaces.{Space, is_member}
use Rattle.poly_model.specs.Dictionaries.{Table}
use Rattle.poly_model.specs.LexOrder.{rows_in}
use Rattle.poly_model.specs.Tree.{IsFeasibleRoot, IsLexFeasible, MayEnter, Enters, Leaves}
use Rattle.dictionary.specs.Views.{Dictionary, table_of}
use Rattle.lex_pivot.specs.declared.parents.Pivot.{Pivot}

-- the cobasis is one of rows
abbrev pub IsOfRows : Dictionary → Type 0
IsOfRows d = All (Contains (rows_in d.labels)) d.key

-- no column may enter
abbrev pub NoneEnters : Dictionary → List ℕ → Type 0
NoneEnters d root = (s : ℕ) → Contains d.key s → MayEnter d.labels root (table_of d) s → ⊥

-- the column of s may enter, and at a cobasis of rows it enters
pub record EntersAt (d : Dictionary) (root : List ℕ) (s : ℕ) : Type 0 where
  pub may : MayEnter d.labels root (table_of d) s
  pub enters : IsOfRows d → Enters d.labels root d.key (table_of d) s

-- so does that of s, and row r leaves in it: the neighbour in it is the parent
pub record LeadsToParent (d : Dictionary) (root : List ℕ) (s r : ℕ) : Type 0 where
  pub column : Contains d.key s
  pub enters : EntersAt d root s
  pub leaves : Leaves d.labels root d.key (table_of d) s r

-- at a lexicographically feasible cobasis under a feasible root there is none exactly at the root
abbrev pub IsRootExactly : Dictionary → List ℕ → Option Pivot → Type 0
IsRootExactly d root result =
    (space : Space) (home : Table) → d.labels ≡ space.labels → IsFeasibleRoot space root home →
    IsLexFeasible space root d.key (table_of d) → IsNone result ↔ (d.key ≡ root)

-- ---- the columns of the root's labels, and those of the others
-- a column in the root, or outside it, that may enter
pub record EntersOn (d : Dictionary) (root : List ℕ) (inside : Bool) (k : ℕ) : Type 0 where
  pub side : is_member k root ≡ inside
  pub may : MayEnter d.labels root (table_of d) k

-- the least of these
pub record IsLeastOn (d : Dictionary) (root : List ℕ) (inside : Bool) (s : ℕ) : Type 0 where
  pub column : Contains d.key s
  pub enters : EntersOn d root inside s
  pub least : (k : ℕ) → Contains d.key k → EntersOn d root inside k → s ≤ k

-- none is one
abbrev pub NoneOn : Dictionary → List ℕ → Bool → Type 0
NoneOn d root inside = (k : ℕ) → Contains d.key k → EntersOn d root inside k → ⊥
