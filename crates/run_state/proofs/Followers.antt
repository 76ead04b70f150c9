-- Legal replies, one after the other, from the keys that are known.
use Rattle.std.proofs.Common.{ℕ, List, [], ◌∷◌}
use Rattle.std.specs.List.{AllByRecursion}
use Rattle.job_text.specs.declared.reply.Reply.{Reply}
use Rattle.work_core.specs.Searches.{Search}
use Rattle.run_state.specs.Payloads.{FitsIn, AreReplies, first_keys, keys_after}
use Rattle.run_state.specs.KeyLists.{KnownKeys}
use Rattle.run_state.specs.Legal.{IsLegalReply, AreLegal}

abbrev pub Follow : Search → KnownKeys → List Reply → Type 0
Follow s keys [] = Unit {0}
Follow s keys (r ∷ replies) = (FitsIn keys r × IsLegalReply s r) × Follow s (keys_after keys r) replies

pub follow_of : (s : Search) (n : ℕ) (keys : KnownKeys) (payloads : List (List ℕ)) (replies : List Reply) →
    AreReplies n keys payloads replies → AllByRecursion (IsLegalReply s) replies → Follow s keys replies
follow_of s n keys [] [] a l = tt
follow_of s n keys [] (r ∷ replies) a l = absurd a
follow_of s n keys (p ∷ payloads) [] a l = tt
follow_of s n keys (p ∷ payloads) (r ∷ replies) a l = (
  (a.0.fits, l.0),
  follow_of s n (keys_after keys r) payloads replies a.1 l.1,
)

-- legal records are such replies
pub follow_legal : (s : Search) (replies : List Reply) (payloads : List (List ℕ)) → AreLegal s replies payloads → Follow s (first_keys s) replies
follow_legal s replies payloads h = follow_of s s.polyhedron.n (first_keys s) h.is_text.others replies h.is_text.are_replies h.legal
