-- Lists of keys: which keys stand there, which are new, and the list less one of them; and the keys that are known.
use Rattle.std.specs.Prelude.{◌≡◌, ℕ, Bool, true, not, nat_eq, ◌&&◌, List, [], ◌∷◌, ◌++◌}
use Rattle.std.specs.List.{Contains, list_any, filter, slice_index_or}
use Rattle.std.specs.Cmp.Lexicographic.{pointwise}
use Rattle.linear_laws.specs.Distinct.{AreDistinct}

-- the same labels
abbrev pub is_same_key : List ℕ → List ℕ → Bool
is_same_key = pointwise nat_eq

-- the key stands in the list
abbrev pub holds : List (List ℕ) → List ℕ → Bool
holds keys key = list_any (is_same_key key) keys

-- the list less the key
abbrev pub without_key : List ℕ → List (List ℕ) → List (List ℕ)
without_key key keys = filter (λ k. not (is_same_key key k)) keys

-- none of the keys is known, by the first list or by an earlier one of its own
abbrev pub are_new : List (List ℕ) → List (List ℕ) → Bool
are_new known [] = true
are_new known (k ∷ keys) = not (holds known k) && are_new (known ++ k ∷ []) keys

-- the first of these keys that is known, by the first list or by an earlier one of its own
pub record IsFirstClash (known keys : List (List ℕ)) (key : List ℕ) : Type 0 where
  pub before : List (List ℕ)
  pub behind : List (List ℕ)
  pub split : keys ≡ before ++ key ∷ behind
  pub new_before : are_new known before ≡ true
  pub clashes : holds (known ++ before) key ≡ true

-- the key at a place
abbrev pub key_at : List (List ℕ) → ℕ → List ℕ
key_at keys place = slice_index_or keys place []

-- the keys that wait, in the order in which they came, and those that are done, in the order in which they were
pub record KnownKeys : Type 0 where
  pub waiting : List (List ℕ)
  pub done : List (List ℕ)

-- no key waits twice, and none that waits is done
pub record StandApart (keys : KnownKeys) : Type 0 where
  pub once : AreDistinct keys.waiting
  pub not_done : (key : List ℕ) → Contains keys.waiting key → Contains keys.done key → ⊥

-- this key is done, and more keys wait behind the others
abbrev pub keys_with : KnownKeys → List ℕ → List (List ℕ) → KnownKeys
keys_with keys key more = record { waiting = without_key key keys.waiting ++ more; done = keys.done ++ key ∷ [] }
