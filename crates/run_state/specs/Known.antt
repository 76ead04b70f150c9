-- The table of the known keys: each once, in the order in which they came, each with a mark that says whether it is
-- done, and the places of those that are, in the order in which they were done.
use Rattle.std.specs.Prelude.{◌≡◌, ℕ, ◌+◌, Bool, true, false, if◌then◌else◌, List, [], ◌∷◌, ◌++◌, length, map, Some, slice_get, vec_items, replicate, slice_set, Vec}
use Rattle.std.specs.List.{Contains}
use Rattle.poly_model.specs.Keys.{IsKey}
use Rattle.linear_laws.specs.Distinct.{AreDistinct}
use Rattle.run_state.specs.declared.stops.AcceptStop.{AcceptStop}
use Rattle.run_state.specs.declared.stops.AcceptStop.TheVariants.{Done, Stranger, Clash, Memory}
use Rattle.run_state.specs.KeyLists.{IsFirstClash, KnownKeys, are_new, key_at}

-- the labels of the stored keys
abbrev pub labels_in : {Z : Type 0} → List (Vec ℕ Z) → List (List ℕ)
labels_in keys = map vec_items keys

-- the keys without a mark
abbrev pub unmarked : List (List ℕ) → List Bool → List (List ℕ)
unmarked [] marks = []
unmarked (k ∷ keys) [] = []
unmarked (k ∷ keys) (m ∷ marks) = if m then unmarked keys marks else k ∷ unmarked keys marks

-- the keys that wait, and those that are done
abbrev pub keys_in : List (List ℕ) → List Bool → List ℕ → KnownKeys
keys_in keys marks places = record { waiting = unmarked keys marks; done = map (key_at keys) places }

-- what the table is seen as
pub record KeyTable : Type 0 where
  pub came : List (List ℕ)
  pub keys : KnownKeys

abbrev pub key_table : List (List ℕ) → List Bool → List ℕ → KeyTable
key_table keys marks places = record { came = keys; keys = keys_in keys marks places }

-- each key stands once and has a mark, and the marked places are those of the keys that are done, of which there are as
-- many as keys with a mark
pub record IsKeyTable (keys : List (List ℕ)) (marks : List Bool) (places : List ℕ) : Type 0 where
  pub once : AreDistinct keys
  pub size : length marks ≡ length keys
  pub marked : (i : ℕ) → Contains places i → slice_get marks i ≡ Some true
  pub listed : (i : ℕ) → slice_get marks i ≡ Some true → Contains places i
  pub count : length (unmarked keys marks) + length places ≡ length keys
  pub are_keys : (k : List ℕ) → Contains keys k → IsKey k

-- a key that has this mark
pub record HasMark (keys : List (List ℕ)) (marks : List Bool) (key : List ℕ) (mark : Bool) : Type 0 where
  pub place : ℕ
  pub at : slice_get keys place ≡ Some key
  pub mark_is : slice_get marks place ≡ Some mark

-- the key got its mark, and more keys came
pub record IsTaken (keys : List (List ℕ)) (marks : List Bool) (places : List ℕ) (keys' : List (List ℕ))
    (marks' : List Bool) (places' : List ℕ) (key : List ℕ) (more : List (List ℕ)) : Type 0 where
  pub waits : HasMark keys marks key false
  pub new_keys : are_new keys more ≡ true
  pub are_keys : (k : List ℕ) → Contains more k → IsKey k
  pub keys_then : keys' ≡ keys ++ more
  pub marks_then : marks' ≡ slice_set (marks ++ replicate (length more) false) waits.place true
  pub places_then : places' ≡ places ++ waits.place ∷ []

-- why keys are not added behind those that are known
abbrev pub RefusesKeys : List (List ℕ) → List (List ℕ) → AcceptStop → Type 0
RefusesKeys keys more Done = ⊥
RefusesKeys keys more Stranger = ⊥
RefusesKeys keys more (Clash key) = IsFirstClash keys more key
RefusesKeys keys more Memory = Unit {0}

-- why a job is not taken, by its mark
abbrev pub RefusesJob : List (List ℕ) → List Bool → List ℕ → List (List ℕ) → AcceptStop → Type 0
RefusesJob keys marks job more Done = HasMark keys marks job true
RefusesJob keys marks job more Stranger = Contains keys job → ⊥
RefusesJob keys marks job more (Clash key) = HasMark keys marks job false × IsFirstClash keys more key
RefusesJob keys marks job more Memory = Unit {0}

-- the places without a mark, the first of which has this number
abbrev pub places_without : ℕ → List Bool → List ℕ
places_without i [] = []
places_without i (m ∷ marks) = if m then places_without (i + 1) marks else i ∷ places_without (i + 1) marks
