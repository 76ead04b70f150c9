-- The payloads of a run's ledger: the first tells what is searched, each other one is a whole reply that ends in `end`.
use Rattle.std.specs.Prelude.{◌≡◌, ◌⊎◌, ℕ, ◌+◌, ◌<◌, ◌^◌, true, List, [], ◌∷◌, ◌++◌, length}
use Rattle.std.specs.List.{AllByRecursion, Contains}
use Rattle.work_core.specs.Searches.{Search, meaning_of}
use Rattle.job_text.specs.declared.reply.Reply.{Reply}
use Rattle.job_text.specs.declared.reply.Tail.{Tail}
use Rattle.job_text.specs.declared.reply.Tail.TheVariants.{End, Overflow, Memory}
use Rattle.job_text.specs.Replies.{IsWholeReply}
use Rattle.job_text.specs.FirstPayloads.{IsFirstPayload}
use Rattle.run_state.specs.KeyLists.{KnownKeys, are_new, keys_with}

-- the last line is `end`
abbrev pub SaysEnd : Tail → Type 0
SaysEnd (End count) = Unit {0}
SaysEnd (Overflow o) = ⊥
SaysEnd Memory = ⊥

-- ---- the keys that are known

-- at first the first key waits
abbrev pub first_keys : Search → KnownKeys
first_keys s = record { waiting = (meaning_of s).first_key ∷ []; done = [] }

-- a reply takes its job from the waiting keys, and adds the keys that it gives back
abbrev pub keys_after : KnownKeys → Reply → KnownKeys
keys_after keys r = keys_with keys r.key r.keys

-- after these replies, one after the other
abbrev pub keys_of : KnownKeys → List Reply → KnownKeys
keys_of keys [] = keys
keys_of keys (r ∷ replies) = keys_of (keys_after keys r) replies

-- the job of the reply waits, and the keys that it gives back are new and distinct
pub record FitsIn (keys : KnownKeys) (r : Reply) : Type 0 where
  pub waits : Contains keys.waiting r.key
  pub new_keys : are_new (keys.waiting ++ keys.done) r.keys ≡ true

-- ---- the payloads

-- the payload is this reply, for a file with rows of n numbers, and may stand where these keys are known
pub record IsNextPayload (n : ℕ) (keys : KnownKeys) (payload : List ℕ) (r : Reply) : Type 0 where
  pub whole : IsWholeReply n r payload
  pub ends : SaysEnd r.tail
  pub fits : FitsIn keys r

-- the payloads are these replies, one after the other
abbrev pub AreReplies : ℕ → KnownKeys → List (List ℕ) → List Reply → Type 0
AreReplies n keys [] [] = Unit {0}
AreReplies n keys (p ∷ payloads) (r ∷ replies) =
    IsNextPayload n keys p r × AreReplies n (keys_after keys r) payloads replies
AreReplies n keys [] (r ∷ replies) = ⊥
AreReplies n keys (p ∷ payloads) [] = ⊥

-- the payloads are a ledger text: the first is that of this search, and the others are these replies
pub record IsLedgerText (s : Search) (replies : List Reply) (payloads : List (List ℕ)) : Type 0 where
  pub first : List ℕ
  pub others : List (List ℕ)
  pub split : payloads ≡ first ∷ others
  pub is_first : IsFirstPayload s first
  pub are_replies : AreReplies s.polyhedron.n (first_keys s) others replies

-- ---- payloads that are no ledger text

-- no search has this first payload
abbrev pub IsNoFirst : List ℕ → Type 0
IsNoFirst payload = (s : Search) → IsFirstPayload s payload → ⊥

-- the payload is no reply that may stand there
abbrev pub IsNoNext : ℕ → KnownKeys → List ℕ → Type 0
IsNoNext n keys payload = (r : Reply) → IsNextPayload n keys payload r → ⊥

-- the payload is none that may stand behind these
abbrev pub IsBadBehind : List (List ℕ) → List ℕ → Type 0
IsBadBehind before payload =
    ((before ≡ []) × IsNoFirst payload)
    ⊎ ((s : Search) × (replies : List Reply) × IsLedgerText s replies before
    × IsNoNext s.polyhedron.n (keys_of (first_keys s) replies) payload)

-- the payload of this number, from 1, is the first that breaks the ledger text
pub record IsBrokenPayload (number : ℕ) (payloads : List (List ℕ)) : Type 0 where
  pub before : List (List ℕ)
  pub payload : List ℕ
  pub behind : List (List ℕ)
  pub split : payloads ≡ before ++ payload ∷ behind
  pub count : number ≡ length before + 1
  pub breaks : IsBadBehind before payload

-- ---- their meaning

-- each has fewer than 2^64 bytes
abbrev pub AreShort : List (List ℕ) → Type 0
AreShort payloads = AllByRecursion (λ p. length p < 2 ^ 64) payloads

-- payloads that are some have one meaning, or one first payload that is broken
pub record HaveOneMeaning (payloads : List (List ℕ)) : Type 0 where
  pub some : 0 < length payloads →
      ((s : Search) × (replies : List Reply) × IsLedgerText s replies payloads)
      ⊎ ((number : ℕ) × IsBrokenPayload number payloads)
  pub one_search : (s t : Search) (a b : List Reply) → IsLedgerText s a payloads → IsLedgerText t b payloads →
      (s ≡ t) × (a ≡ b)
  pub one_place : (m n : ℕ) → IsBrokenPayload m payloads → IsBrokenPayload n payloads → m ≡ n
  pub not_both : (s : Search) (a : List Reply) (n : ℕ) → IsLedgerText s a payloads → IsBrokenPayload n payloads → ⊥
