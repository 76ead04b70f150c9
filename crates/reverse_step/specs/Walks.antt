-- Where a walk through the tree of cobases stands.
use Rattle.std.specs.Prelude.{◌≡◌, ℕ, zero, List, [], ◌∷◌, length}
use Rattle.poly_model.specs.Keys.{IsAscending}
use Rattle.poly_model.specs.Spaces.{Space}
use Rattle.poly_model.specs.Dictionaries.{Table}
use Rattle.poly_model.specs.LexOrder.{rows_in}
use Rattle.poly_model.specs.Tree.{IsFeasibleRoot, IsLexFeasible}
use Rattle.dictionary.specs.Views.{Dictionary, table_of, IsDictionaryIn}
use Rattle.search_laws.specs.Shares.{IsChildAt}
use Rattle.reverse_step.specs.Waiting.{Wait}

-- a dictionary of which another one is the child, in the column of a label
pub record Parent : Type 0 where
  pub dict : Dictionary
  pub column : ℕ

-- the dictionary where it stands, the root of the order, the job's root, the place in the key of the next column; and the
-- ancestors that are kept: first the parent, then its parent, and so on
pub record Walk : Type 0 where
  pub dict : Dictionary
  pub root : List ℕ
  pub job : List ℕ
  pub at : ℕ
  pub parents : List Parent

-- both are of one phase, with as many rows and columns
pub record AreAlike (here other : Dictionary) : Type 0 where
  pub phase : other.phase ≡ here.phase
  pub rows : length other.labels ≡ length here.labels
  pub columns : length other.columns ≡ length here.columns

-- the root is feasible, and the dictionary that of a lexicographically feasible cobasis
pub record Stands (space : Space) (home : Table) (root : List ℕ) (d : Dictionary) : Type 0 where
  pub ascending : IsAscending (rows_in space.labels)
  pub feasible_root : IsFeasibleRoot space root home
  pub dictionary : IsDictionaryIn space d
  pub feasible : IsLexFeasible space root d.key (table_of d)

-- each ancestor that is kept is the parent of the one before it, and the first that of this dictionary
abbrev pub AreParentsKept : Space → Table → List ℕ → Dictionary → List Parent → Type 0
AreParentsKept space home root d [] = Unit {0}
AreParentsKept space home root d (p ∷ ps) =
    Stands space home root p.dict × IsChildAt space root p.dict.key p.column d.key
    × AreParentsKept space home root p.dict ps

-- in this space it is a walk
pub record IsWalkIn (space : Space) (home : Table) (walk : Walk) : Type 0 where
  pub stands : Stands space home walk.root walk.dict
  pub kept : AreParentsKept space home walk.root walk.dict walk.parents

-- at this depth under the job's root these keys wait
abbrev pub Waits : Space → Walk → ℕ → List (List ℕ) → Type 0
Waits space walk depth waiting = Wait (IsChildAt space walk.root) walk.job depth walk.dict.key walk.at waiting

-- nothing under the job's root has been tried
pub record IsAtStart (walk : Walk) : Type 0 where
  pub key : walk.dict.key ≡ walk.job
  pub at : walk.at ≡ zero
