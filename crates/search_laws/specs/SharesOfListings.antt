-- Shares, weights and runs in the words of a polyhedron's listing: the share of the root is the extreme vectors, and a
-- run that visits some keys and gives others back parts the share of its key.
use Rattle.std.specs.Prelude.{◌≡◌, ◌⊎◌, ◌↔◌, ◌+◌, ℕ, List, [], ◌∷◌, ◌++◌, length, Option}
use Rattle.std.specs.List.{Contains}
use Rattle.poly_num.specs.Vectors.{Vector}
use Rattle.poly_model.specs.Systems.{Polyhedron, cone_of}
use Rattle.poly_model.specs.FreeColumns.{AreFreeColumns}
use Rattle.poly_model.specs.Extreme.{IsExtreme}
use Rattle.poly_model.specs.Spaces.{main_space}
use Rattle.poly_model.specs.Subtrees.{IsSubtreeRoot, IsSubtreeKey, IsSubtreeDepth, IsShownAtKey, InSubtree}
use Rattle.poly_model.specs.Labels.{IsRow}
use Rattle.search_laws.specs.Shares.{ListsAll}
use Rattle.search_laws.specs.Splits.{IsSplit}
use Rattle.search_laws.specs.Partitions.{PartsShare}

module _ (p : Polyhedron) (root : List ℕ) where
  -- ---- keys
  -- parents lead from one key to the other; each lies under itself
  abbrev pub LiesUnder : List ℕ → List ℕ → Type 0
  LiesUnder one key = (depth : ℕ) × IsSubtreeDepth p root one key depth

  abbrev pub IsKeyUnder : List ℕ → List ℕ → Type 0
  IsKeyUnder key one = IsSubtreeKey p root one × LiesUnder one key

  -- one step under
  abbrev pub IsSubtreeChild : List ℕ → List ℕ → Type 0
  IsSubtreeChild key child = IsSubtreeKey p root child × IsSubtreeDepth p root child key 1

  -- so many keys lie under a key, itself with them
  abbrev pub IsSubtreeWeight : List ℕ → ℕ → Type 0
  IsSubtreeWeight key w = (ones : List (List ℕ)) × ListsAll (IsKeyUnder key) ones × (length ones ≡ w)

  -- the weights of these keys add up to w
  abbrev pub IsSubtreeTotal : List (List ℕ) → ℕ → Type 0
  IsSubtreeTotal [] w = w ≡ 0
  IsSubtreeTotal (key ∷ keys) w =
      (u : ℕ) × (v : ℕ) × IsSubtreeWeight key u × IsSubtreeTotal keys v × (w ≡ u + v)

  -- ---- vectors
  -- y is shown at one of these keys
  abbrev pub IsShownAtSome : List (List ℕ) → Vector → Type 0
  IsShownAtSome keys y = (one : List ℕ) × Contains keys one × (place : Option ℕ) × IsShownAtKey p root one place y

  -- y is in the share of one of these
  abbrev pub InSomeSubtree : List (List ℕ) → Vector → Type 0
  InSomeSubtree keys y = (one : List ℕ) × Contains keys one × InSubtree p root one y

  -- ---- runs
  -- each key under the key is visited or lies under a key that waits, and not both
  pub record IsRun (key : List ℕ) (visited waiting : List (List ℕ)) : Type 0 where
    pub free : List ℕ
    pub columns : AreFreeColumns (cone_of p) free
    pub split : IsSplit (main_space p free) root key visited waiting

-- the share of the root is the extreme vectors. No label of a row may be that of a coordinate
abbrev pub RootShareIsListing : Type 0
RootShareIsListing =
    (p : Polyhedron) (root : List ℕ) → IsRow (length (cone_of p).rows) → IsSubtreeRoot p root →
    (y : Vector) → InSubtree p root root y ↔ IsExtreme (cone_of p) y

pub record HasSubtreeShares (p : Polyhedron) (root : List ℕ) : Type 0 where
  -- the root is a key; what lies over a key is one; what lies under a key that lies under another lies under that
  pub first : IsSubtreeKey p root root
  pub above : (one key : List ℕ) → IsSubtreeKey p root one → LiesUnder p root one key → IsSubtreeKey p root key
  pub through : (a b c : List ℕ) → LiesUnder p root a b → LiesUnder p root b c → LiesUnder p root a c
  -- keys that lie under each other are one; of two over one key, one lies under the other
  pub both : (a b : List ℕ) → IsSubtreeKey p root a → LiesUnder p root a b → LiesUnder p root b a → a ≡ b
  pub meet : (one b c : List ℕ) → IsSubtreeKey p root one → LiesUnder p root one b → LiesUnder p root one c →
      LiesUnder p root b c ⊎ LiesUnder p root c b
  -- it lies there at one depth, and depths add up
  pub one_depth : (one key : List ℕ) (m n : ℕ) → IsSubtreeKey p root one → IsSubtreeDepth p root one key m →
      IsSubtreeDepth p root one key n → m ≡ n
  pub itself : (key : List ℕ) → IsSubtreeDepth p root key key 0
  pub joined : (a b c : List ℕ) (m n : ℕ) → IsSubtreeDepth p root a b m → IsSubtreeDepth p root b c n →
      IsSubtreeDepth p root a c (m + n)
  -- what a key shows is in its share; the share of a key under another is in the share of that; of the keys of two
  -- shares with one vector, one lies under the other
  pub own : (key : List ℕ) (place : Option ℕ) (y : Vector) → IsShownAtKey p root key place y → InSubtree p root key y
  pub within : (a b : List ℕ) (y : Vector) → LiesUnder p root a b → InSubtree p root a y → InSubtree p root b y
  pub common : (b c : List ℕ) (y : Vector) → InSubtree p root b y → InSubtree p root c y →
      LiesUnder p root b c ⊎ LiesUnder p root c b
  -- each key has one weight
  pub weight : (key : List ℕ) → IsSubtreeKey p root key → (w : ℕ) × IsSubtreeWeight p root key w
  pub one_weight : (key : List ℕ) (v w : ℕ) → IsSubtreeWeight p root key v → IsSubtreeWeight p root key w → v ≡ w
  pub total : (keys : List (List ℕ)) → ((key : List ℕ) → Contains keys key → IsSubtreeKey p root key) →
      (w : ℕ) × IsSubtreeTotal p root keys w

abbrev pub SharesOfListings : Type 0
SharesOfListings = (p : Polyhedron) (root : List ℕ) → IsSubtreeRoot p root → HasSubtreeShares p root

pub record RunsPartSubtrees (p : Polyhedron) (root : List ℕ) : Type 0 where
  -- at the start the key itself waits; where a key that waits is visited, its children wait in its place
  pub start : (key : List ℕ) → IsSubtreeKey p root key → IsRun p root key [] (key ∷ [])
  pub visit : (key one : List ℕ) (visited waiting children : List (List ℕ)) →
      IsRun p root key visited (one ∷ waiting) → ListsAll (IsSubtreeChild p root one) children →
      IsRun p root key (one ∷ visited) (children ++ waiting)
  -- both lie under the key; where none waits, all that do are visited
  pub visited_under : (key one : List ℕ) (visited waiting : List (List ℕ)) → IsRun p root key visited waiting →
      Contains visited one → IsKeyUnder p root key one
  pub waiting_under : (key one : List ℕ) (visited waiting : List (List ℕ)) → IsRun p root key visited waiting →
      Contains waiting one → IsKeyUnder p root key one
  pub finished : (key : List ℕ) (visited : List (List ℕ)) → IsRun p root key visited [] →
      ListsAll (IsKeyUnder p root key) visited
  -- the keys that wait, in another order
  pub to_front : (key one : List ℕ) (visited front back : List (List ℕ)) →
      IsRun p root key visited (front ++ one ∷ back) ↔ IsRun p root key visited (one ∷ front ++ back)
  -- the rows that a visit shows are new
  pub more_rows : (one : List ℕ) (visited : List (List ℕ)) (ys rows : List Vector) → (Contains visited one → ⊥) →
      ListsAll (IsShownAtSome p root (one ∷ [])) ys → ListsAll (IsShownAtSome p root visited) rows →
      ListsAll (IsShownAtSome p root (one ∷ visited)) (ys ++ rows)
  -- y is in the share exactly where it is shown at a visited key, or in the share of a key that waits
  pub share : (key : List ℕ) (visited waiting : List (List ℕ)) → IsRun p root key visited waiting → (y : Vector) →
      InSubtree p root key y ↔ (IsShownAtSome p root visited y ⊎ InSomeSubtree p root waiting y)
  -- not both, and in that of one such key only
  pub not_both : (key : List ℕ) (visited waiting : List (List ℕ)) → IsRun p root key visited waiting → (y : Vector) →
      IsShownAtSome p root visited y → InSomeSubtree p root waiting y → ⊥
  pub one_waiting : (key b c : List ℕ) (visited waiting : List (List ℕ)) → IsRun p root key visited waiting →
      (y : Vector) → Contains waiting b → Contains waiting c → InSubtree p root b y → InSubtree p root c y → b ≡ c
  -- so after the first visit the rows that were shown and the keys that wait part the share
  pub parts : (key one : List ℕ) (visited waiting : List (List ℕ)) (rows : List Vector) →
      IsRun p root key visited waiting → Contains visited one → ListsAll (IsShownAtSome p root visited) rows →
      PartsShare (IsSubtreeKey p root) (LiesUnder p root) (InSubtree p root) key rows waiting
  -- the weight is the number of visits and what waits
  pub weight : (key : List ℕ) (visited waiting : List (List ℕ)) (w : ℕ) → IsRun p root key visited waiting →
      IsSubtreeTotal p root waiting w → IsSubtreeWeight p root key (length visited + w)

abbrev pub RunsPartListings : Type 0
RunsPartListings = (p : Polyhedron) (root : List ℕ) → IsSubtreeRoot p root → RunsPartSubtrees p root
