-- What bytes that came for an attempt are to the machine.
use Rattle.std.specs.Prelude.{◌≡◌, ◌<◌, ◌^◌, ℕ, List, length, Some}
use Rattle.job_text.specs.declared.reply.Reply.{Reply}
use Rattle.job_text.specs.Replies.{IsWholeReply}
use Rattle.coordinator_core.specs.declared.event.Event.{Event}
use Rattle.coordinator_core.specs.declared.event.Event.TheVariants.{Answer, Lost}
use Rattle.coordinator_core.specs.Machine.{Attempt, State, sent_at}

-- the bytes, fewer than 2^64, are this whole reply of the job of an attempt; one never handed out has none
pub record IsReplyTo (s : State) (attempt : ℕ) (bytes : List ℕ) (r : Reply) : Type 0 where
  pub which : Attempt
  pub is_sent : sent_at s attempt ≡ Some which
  pub key : r.key ≡ which.key
  pub short : length bytes < 2 ^ 64
  pub whole : IsWholeReply s.run.search.polyhedron.n r bytes

-- an answer where they are such a reply, else a loss
abbrev pub IsEventOf : State → ℕ → List ℕ → Event → Type 0
IsEventOf s attempt bytes (Answer a r) = (a ≡ attempt) × IsReplyTo s attempt bytes r
IsEventOf s attempt bytes (Lost a) = (a ≡ attempt) × ((r : Reply) → IsReplyTo s attempt bytes r → ⊥)
