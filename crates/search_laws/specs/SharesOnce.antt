-- The share of the root is the extreme vectors, and each stands in a share once: shares meet only where one key is
-- under the other, and a run shows nothing that is in a share that waits.
use Rattle.std.specs.Prelude.{◌≡◌, ◌⊎◌, ◌↔◌, ℕ, List, ◌∷◌, ◌++◌}
use Rattle.std.specs.List.{Contains}
use Rattle.poly_num.specs.Vectors.{Vector}
use Rattle.poly_model.specs.Spaces.{Space}
use Rattle.poly_model.specs.Dictionaries.{Table}
use Rattle.poly_model.specs.LexOrder.{rows_in}
use Rattle.poly_model.specs.Tree.{IsFeasibleRoot, IsUnder, IsExtremeIn}
use Rattle.linear_laws.specs.Distinct.{AreDistinct}
use Rattle.search_laws.specs.Shares.{ListsAll, IsChild, IsShownBy, InShare}
use Rattle.search_laws.specs.Splits.{IsSplit, IsShownBySome, InSomeShare}

pub record ShowsOnce (space : Space) (root : List ℕ) : Type 0 where
  -- the share of the root is the extreme vectors
  pub all : (y : Vector) → InShare space root root y ↔ IsExtremeIn space y
  -- one cobasis shows a vector
  pub one : (key other : List ℕ) (y : Vector) → IsShownBy space root key y → IsShownBy space root other y → key ≡ other
  -- so two shares with one vector are those of keys of which one is under the other
  pub meet : (b c : List ℕ) (y : Vector) → InShare space root b y → InShare space root c y →
      IsUnder space root b c ⊎ IsUnder space root c b
  -- what a key shows itself is in the share of no child, and what is in that of one child is in that of no other
  pub own_or_child : (key child : List ℕ) (y : Vector) → IsShownBy space root key y → IsChild space root key child →
      InShare space root child y → ⊥
  pub one_child : (key b c : List ℕ) (y : Vector) → IsChild space root key b → IsChild space root key c →
      InShare space root b y → InShare space root c y → b ≡ c
  -- what a run has shown is in no share that waits
  pub shown_or_waiting : (key : List ℕ) (visited waiting : List (List ℕ)) → IsSplit space root key visited waiting →
      (y : Vector) → IsShownBySome space root visited y → InSomeShare space root waiting y → ⊥
  -- and the rows that a visit shows are new
  pub visit : (one : List ℕ) (visited : List (List ℕ)) (ys rows : List Vector) → (Contains visited one → ⊥) →
      ListsAll (IsShownBy space root one) ys → ListsAll (IsShownBySome space root visited) rows →
      ListsAll (IsShownBySome space root (one ∷ visited)) (ys ++ rows)

abbrev pub SharesOnce : Type 0
SharesOnce =
    (space : Space) (root : List ℕ) (home : Table) → AreDistinct (rows_in space.labels) →
    IsFeasibleRoot space root home →
    ShowsOnce space root
