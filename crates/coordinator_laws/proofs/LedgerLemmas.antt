-- Ledger texts that go on, and their fronts.
use Rattle.std.proofs.Common.{◌≡◌, ℕ, ◌<◌, List, [], ◌∷◌, ◌++◌, sym, ap, subst, length, arith}
use Rattle.std.specs.List.{AllByRecursion}
use Rattle.linear_laws.proofs.AllLemmas.{all_both}
use Rattle.job_text.specs.declared.reply.Reply.{Reply}
use Rattle.work_core.specs.Searches.{Search}
use Rattle.run_state.specs.Payloads.{AreReplies, first_keys, keys_after, keys_of}
use Rattle.run_state.specs.KeyLists.{KnownKeys}
use Rattle.run_state.specs.Legal.{AreLegal, IsLegal, IsLegalReply}
use Rattle.run_state.proofs.FollowLemmas.{ledger-join}

pub legal-join : (s : Search) (replies others : List Reply) (payloads more : List (List ℕ)) → AreLegal s replies payloads →
    AreReplies s.polyhedron.n (keys_of (first_keys s) replies) more others → AllByRecursion (IsLegalReply s) others →
    AreLegal s (replies ++ others) (payloads ++ more)
legal-join s replies others payloads more h a l = record {
  is_text = ledger-join s replies others payloads more h.is_text a;
  feasible = h.feasible;
  root = h.root;
  legal = all_both (IsLegalReply s) replies others h.legal l;
}

-- ---- fronts
record HasFront (s : Search) (n : ℕ) (keys : KnownKeys) (front : List (List ℕ)) : Type 0 where
  replies : List Reply
  are_replies : AreReplies n keys front replies
  legal : AllByRecursion (IsLegalReply s) replies

front_of : (s : Search) (n : ℕ) (keys : KnownKeys) (front rest : List (List ℕ)) (replies : List Reply) →
    AreReplies n keys (front ++ rest) replies → AllByRecursion (IsLegalReply s) replies → HasFront s n keys front
front_of s n keys [] rest replies a l = record { replies = []; are_replies = tt; legal = tt }
front_of s n keys (p ∷ front) rest [] a l = absurd a
front_of s n keys (p ∷ front) rest (r ∷ replies) a l =
    let h = front_of s n (keys_after keys r) front rest replies a.1 l.1 in
    record { replies = r ∷ h.replies; are_replies = (a.0, h.are_replies); legal = (l.0, h.legal) }

pub front_is_legal : (front rest : List (List ℕ)) → 0 < length front → IsLegal (front ++ rest) → IsLegal front
front_is_legal [] rest i h = absurd (omega (arith, i))
front_is_legal (f ∷ front) rest i (s, replies, h) =
    let q : (f ∷ (front ++ rest)) ≡ h.is_text.first ∷ h.is_text.others = h.is_text.split in
    let same : f ≡ h.is_text.first = cc in
    let others : front ++ rest ≡ h.is_text.others = cc in
    let g = front_of s s.polyhedron.n (first_keys s) front rest replies
    (subst (λ (l : List (List ℕ)). AreReplies s.polyhedron.n (first_keys s) l replies) (sym others) h.is_text.are_replies) h.legal in (
      s,
      g.replies,
      record {
        is_text = record {
          first = h.is_text.first;
          others = front;
          split = ap (λ (x : List ℕ). x ∷ front) same;
          is_first = h.is_text.is_first;
          are_replies = g.are_replies;
        };
        feasible = h.feasible;
        root = h.root;
        legal = g.legal;
      },
    )
