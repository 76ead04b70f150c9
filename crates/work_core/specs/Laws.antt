-- What holds of the keys and shares of a work.
use Rattle.std.specs.Prelude.{◌≡◌, ◌⊎◌, ◌↔◌, ℕ, List, length}
use Rattle.std.specs.List.{Contains}
use Rattle.poly_num.specs.Vectors.{Vector}
use Rattle.poly_model.specs.Labels.{IsRow}
use Rattle.poly_model.specs.Systems.{cone_of}
use Rattle.poly_model.specs.Extreme.{IsExtreme}
use Rattle.work_core.specs.Meanings.{Meaning, StandsUnder, Weighs}
use Rattle.work_core.specs.Searches.{Search, MayBegin, meaning_of}

-- the share of the first key is the extreme vectors. No label of a row may be that of a coordinate
abbrev pub FirstKeyHasAll : Type 0
FirstKeyHasAll =
    (s : Search) → IsRow (length (cone_of s.polyhedron).rows) → MayBegin s → (y : Vector) →
    (meaning_of s).in_share (meaning_of s).first_key y ↔ IsExtreme (cone_of s.polyhedron) y

pub record HasShares (work : Meaning) : Type 0 where
  pub first : work.is_key work.first_key
  -- each key lies under itself; what lies under a key that lies under another lies under that
  pub itself : (key : List ℕ) → work.is_depth key key 0
  pub through : (a b c : List ℕ) → work.is_key a → StandsUnder work a b → StandsUnder work b c → StandsUnder work a c
  -- of two keys that lie under each other there is one; of two under which one key lies, one lies under the other
  pub both : (a b : List ℕ) → work.is_key a → StandsUnder work a b → StandsUnder work b a → a ≡ b
  pub meet : (one b c : List ℕ) → work.is_key one → StandsUnder work one b → StandsUnder work one c →
      StandsUnder work b c ⊎ StandsUnder work c b
  -- it lies there at one depth
  pub one_depth : (one key : List ℕ) (m n : ℕ) → work.is_key one → work.is_depth one key m → work.is_depth one key n → m ≡ n
  -- the share of a key is within that of each over it
  pub within : (a b : List ℕ) (y : Vector) → work.is_key a → StandsUnder work a b → work.in_share a y → work.in_share b y
  -- each key has one weight
  pub weight : (key : List ℕ) → work.is_key key → (n : ℕ) × Weighs work key n
  pub one_weight : (key : List ℕ) (m n : ℕ) → Weighs work key m → Weighs work key n → m ≡ n

abbrev pub SharesHold : Type 0
SharesHold = (s : Search) → MayBegin s → HasShares (meaning_of s)

-- a share holds extreme vectors alone. No label of a row may be that of a coordinate
abbrev pub SharesAreExtreme : Type 0
SharesAreExtreme =
    (s : Search) → IsRow (length (cone_of s.polyhedron).rows) → MayBegin s → (key : List ℕ) (y : Vector) →
    (meaning_of s).in_share key y → IsExtreme (cone_of s.polyhedron) y

-- the labels of keys are those of rows
abbrev pub KeysAreOfRows : Type 0
KeysAreOfRows =
    (s : Search) → IsRow (length (cone_of s.polyhedron).rows) → (key : List ℕ) → (meaning_of s).is_key key →
    (k : ℕ) → Contains key k → IsRow k
