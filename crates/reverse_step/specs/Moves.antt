-- How a walk moves.
use Rattle.std.specs.Prelude.{◌≡◌, ◌⊎◌, ℕ, zero, suc, ◌+◌, ◌<◌, Bool, true, false, List, [], ◌∷◌, ◌++◌, length, take, drop, Option, Some, None}
use Rattle.poly_model.specs.Spaces.{Space}
use Rattle.poly_model.specs.Dictionaries.{Table}
use Rattle.dictionary_laws.specs.Keys.{place_in}
use Rattle.dictionary.specs.Views.{Dictionary, IsPivot}
use Rattle.search_laws.specs.Shares.{ListsAll, IsChild}
use Rattle.lex_pivot.specs.Above.{NoneEnters}
use Rattle.reverse_step.specs.declared.walker.Visit.{Visit}
use Rattle.reverse_step.specs.declared.walker.Visit.TheVariants.{New, Back, End}
use Rattle.reverse_step.specs.Waiting.{AreAlong}
use Rattle.reverse_step.specs.Walks.{Parent, Walk, IsWalkIn, Waits}
use Rattle.search_laws.specs.Shares.{IsChildAt}
use Rattle.reverse_step.specs.Children.{HasNoChildAt}

-- the same walk elsewhere
abbrev pub moved_to : Walk → Dictionary → ℕ → List Parent → Walk
moved_to walk d at parents = record { dict = d; root = walk.root; job = walk.job; at = at; parents = parents }

-- the same walk, with all columns tried
abbrev pub past : Walk → Walk
past walk = moved_to walk walk.dict (length walk.dict.key) walk.parents

-- ---- one column
-- the ancestors below: the dictionary from before, whose child is in the column of s, and before it as many as are still
-- kept
abbrev pub parents_below : Walk → ℕ → ℕ → List Parent
parents_below old s kept = record { dict = old.dict; column = s } ∷ take kept old.parents

-- row r has taken the place of s; no column is tried there, and the dictionary from before is kept
pub record IsMovedDown (old : Walk) (r s : ℕ) (new : Walk) : Type 0 where
  pub pivot : IsPivot old.dict r s new.dict
  pub kept : ℕ
  pub same : new ≡ moved_to old new.dict 0 (parents_below old s kept)

-- at the child in the column of s, in each space in which this is a walk; no column is tried there
pub record IsAtChild (old : Walk) (s : ℕ) (new : Walk) : Type 0 where
  pub kept : ℕ
  pub same : new ≡ moved_to old new.dict 0 (parents_below old s kept)
  pub phase : new.dict.phase ≡ old.dict.phase
  pub child : (space : Space) (home : Table) → IsWalkIn space home old →
      IsWalkIn space home new × IsChildAt space old.root old.dict.key s new.dict.key

-- true: at the child; false: there is none, and nothing has changed
abbrev pub GoesDown : Walk → ℕ → Bool → Walk → Type 0
GoesDown old s true new = IsAtChild old s new
GoesDown old s false new = (new ≡ old) × HasNoChildAt old.root old.dict s

-- at the parent, whose child it was in the column of s, in each space in which this is a walk; the next column is that
-- behind s, and the ancestors are kept that were kept before it
pub record IsMovedUp (old : Walk) (s : ℕ) (new : Walk) : Type 0 where
  pub same : new ≡ moved_to old new.dict (place_in new.dict.key s + 1) (drop 1 old.parents)
  pub phase : new.dict.phase ≡ old.dict.phase
  pub parent : (space : Space) (home : Table) → IsWalkIn space home old →
      IsWalkIn space home new × IsChildAt space old.root new.dict.key s old.dict.key

-- some ancestor is kept
abbrev pub KnowsParent : Walk → Type 0
KnowsParent walk = 0 < length walk.parents

-- at the parent that was kept, whose child it was in the column of s
pub record IsBackAtParent (old : Walk) (s : ℕ) (new : Walk) : Type 0 where
  pub parents : old.parents ≡ record { dict = new.dict; column = s } ∷ new.parents
  pub same : new ≡ moved_to old new.dict (place_in new.dict.key s + 1) new.parents
  pub phase : new.dict.phase ≡ old.dict.phase

-- None: at the job's root, or at a cobasis without a parent, and nothing has changed
abbrev pub GoesUp : Walk → Option ℕ → Walk → Type 0
GoesUp old None new = (new ≡ old) × ((old.dict.key ≡ old.job) ⊎ NoneEnters old.dict old.root)
GoesUp old (Some s) new = (old.dict.key ≡ old.job → ⊥) × IsMovedUp old s new

-- ---- one step
-- it stands at the first key that waited. Its children wait in its place, in the order of their columns, and not if its columns
-- are passed over
pub record IsAtNew (space : Space) (walk : Walk) (depth : ℕ) (waiting : List (List ℕ)) : Type 0 where
  pub rest : List (List ℕ)
  pub first : waiting ≡ walk.dict.key ∷ rest
  pub cs : List (List ℕ)
  pub along : AreAlong (IsChildAt space walk.root) walk.dict.key walk.dict.key cs
  pub children : ListsAll (IsChild space walk.root walk.dict.key) cs
  pub waits : Waits space walk (suc depth) (cs ++ rest)
  pub passed : Waits space (past walk) (suc depth) rest

-- Back: at the parent, and the same keys wait. End: at the job's root, and none waits
abbrev pub Moves : Space → Walk → ℕ → List (List ℕ) → Visit → Type 0
Moves space walk depth waiting New = IsAtNew space walk depth waiting
Moves space walk depth waiting Back = (n : ℕ) × (depth ≡ suc n) × Waits space walk n waiting
Moves space walk depth waiting End = (waiting ≡ []) × (depth ≡ zero)

-- one step, in each space in which this is a walk
pub record IsVisit (old : Walk) (visit : Visit) (new : Walk) : Type 0 where
  pub root : new.root ≡ old.root
  pub job : new.job ≡ old.job
  pub phase : new.dict.phase ≡ old.dict.phase
  pub walk : (space : Space) (home : Table) → IsWalkIn space home old → IsWalkIn space home new
  pub moves : (space : Space) (home : Table) → IsWalkIn space home old → (depth : ℕ) (waiting : List (List ℕ)) →
      Waits space old depth waiting → Moves space new depth waiting visit
