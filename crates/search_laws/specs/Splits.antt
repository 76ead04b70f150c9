-- A run under a key that visits some cobases and gives others back: each cobasis under the key is visited or under one
-- of the keys that wait, and so its share is what was shown and what is in their shares.
use Rattle.std.specs.Prelude.{◌≡◌, ◌⊎◌, ◌↔◌, ◌+◌, ℕ, suc, List, [], ◌∷◌, ◌++◌, length}
use Rattle.std.specs.List.{Contains}
use Rattle.poly_num.specs.Vectors.{Vector}
use Rattle.poly_model.specs.Spaces.{Space}
use Rattle.poly_model.specs.Dictionaries.{Table}
use Rattle.poly_model.specs.LexOrder.{rows_in}
use Rattle.poly_model.specs.Tree.{IsFeasibleRoot}
use Rattle.linear_laws.specs.Distinct.{AreDistinct}
use Rattle.search_laws.specs.Shares.{ListsAll, IsFeasibleKey, IsChild, IsFeasibleUnder, IsShownBy, InShare}
use Rattle.search_laws.specs.Weights.{IsWeight, IsTotal, IsUnderSome, IsAntichain}

module _ (space : Space) (root : List ℕ) where
  -- each lexicographically feasible cobasis under the key is visited or under a key that waits, and not both
  pub record IsSplit (key : List ℕ) (visited waiting : List (List ℕ)) : Type 0 where
    pub once : AreDistinct visited
    pub only : (one : List ℕ) → Contains visited one → IsFeasibleUnder space root key one
    pub each : (one : List ℕ) → IsFeasibleUnder space root key one →
        Contains visited one ⊎ IsUnderSome space root waiting one
    pub not_both : (one : List ℕ) → Contains visited one → IsUnderSome space root waiting one → ⊥
    pub waits : (one : List ℕ) → Contains waiting one → IsFeasibleUnder space root key one
    pub apart : IsAntichain space root waiting

  -- y is shown at one of these
  abbrev pub IsShownBySome : List (List ℕ) → Vector → Type 0
  IsShownBySome keys y = (one : List ℕ) × Contains keys one × IsShownBy space root one y

  -- y is in the share of one of these
  abbrev pub InSomeShare : List (List ℕ) → Vector → Type 0
  InSomeShare keys y = (one : List ℕ) × Contains keys one × InShare space root one y

pub record AreSplit (space : Space) (root : List ℕ) : Type 0 where
  -- at the start the key itself waits
  pub start : (key : List ℕ) → IsFeasibleKey space root key → IsSplit space root key [] (key ∷ [])
  -- a key that waits is visited: its children wait in its place
  pub visit : (key one : List ℕ) (visited waiting cs : List (List ℕ)) →
      IsSplit space root key visited (one ∷ waiting) → ListsAll (IsChild space root one) cs →
      IsSplit space root key (one ∷ visited) (cs ++ waiting)
  -- the keys that wait, in another order
  pub to_front : (key one : List ℕ) (visited front back : List (List ℕ)) →
      IsSplit space root key visited (front ++ one ∷ back) ↔ IsSplit space root key visited (one ∷ front ++ back)
  -- after the first visit no key that waits is the key itself
  pub not_itself : (key one : List ℕ) (visited waiting : List (List ℕ)) → IsSplit space root key visited waiting →
      Contains visited one → Contains waiting key → ⊥
  -- the weight is the number of visits and what waits
  pub weight : (key : List ℕ) (visited waiting : List (List ℕ)) (w : ℕ) → IsSplit space root key visited waiting →
      IsTotal space root waiting w → IsWeight space root key (length visited + w)
  -- what waits is a number, and each visit takes one from it
  pub total : (keys : List (List ℕ)) → ((one : List ℕ) → Contains keys one → IsFeasibleKey space root one) →
      (w : ℕ) × IsTotal space root keys w
  pub one_total : (keys : List (List ℕ)) (v w : ℕ) → IsTotal space root keys v → IsTotal space root keys w → v ≡ w
  pub falls : (one : List ℕ) (waiting cs : List (List ℕ)) (w : ℕ) → IsFeasibleKey space root one →
      ListsAll (IsChild space root one) cs → IsTotal space root (cs ++ waiting) w →
      IsTotal space root (one ∷ waiting) (suc w)
  -- where none waits, all under the key are visited
  pub finished : (key : List ℕ) (visited : List (List ℕ)) → IsSplit space root key visited [] →
      ListsAll (IsFeasibleUnder space root key) visited
  -- the share is what was shown and what is in the shares that wait
  pub share : (key : List ℕ) (visited waiting : List (List ℕ)) → IsSplit space root key visited waiting →
      (y : Vector) →
      InShare space root key y ↔ (IsShownBySome space root visited y ⊎ InSomeShare space root waiting y)

abbrev pub RunsSplit : Type 0
RunsSplit =
    (space : Space) (root : List ℕ) (home : Table) → AreDistinct (rows_in space.labels) →
    IsFeasibleRoot space root home →
    AreSplit space root
