-- The replies of a ledger text by their places: each record behind the first is one.
use Rattle.std.proofs.Common.{◌≡◌, ℕ, zero, suc, ◌+◌, ◌-◌, ◌<◌, ◌≤◌, List, [], ◌∷◌, ◌++◌, Some, refl, ap, subst, ◌∙◌, length, drop, slice_get, arith}
use Rattle.std.proofs.lemmas.List.{drop_all}
use Rattle.work_core.specs.Searches.{Search}
use Rattle.job_text.specs.declared.reply.Reply.{Reply}
use Rattle.run_state.specs.KeyLists.{KnownKeys}
use Rattle.run_state.specs.Payloads.{AreReplies, IsLedgerText, first_keys, keys_after}
use Rattle.run_state.specs.Runs.{recorded_rows}
use Rattle.run_ledger.specs.Recorded.{IsNoReplyAt, IsReplyAt}

-- the payload at a place is the reply that stands at a place of the replies
pub record HasReplyAt (n : ℕ) (payloads : List (List ℕ)) (i : ℕ) (replies : List Reply) (place : ℕ) : Type 0 where
  pub reply : Reply
  pub stands : slice_get replies place ≡ Some reply
  pub is_at : IsReplyAt n payloads i reply

behind : (n : ℕ) (first : List ℕ) (payloads : List (List ℕ)) (i : ℕ) (replies : List Reply) (place : ℕ)
    (r : Reply) → HasReplyAt n payloads i replies place →
    HasReplyAt n (first ∷ payloads) (suc i) (r ∷ replies) (suc place)
behind n first payloads i replies place r h = record {
  reply = h.reply;
  stands = h.stands;
  is_at = record { payload = h.is_at.payload; at = h.is_at.at; whole = h.is_at.whole; ends = h.is_at.ends };
}

reply_at : (n : ℕ) (keys : KnownKeys) (payloads : List (List ℕ)) (replies : List Reply) →
    AreReplies n keys payloads replies → (i : ℕ) → i < length payloads → HasReplyAt n payloads i replies i
reply_at n keys [] replies are i lt = absurd (omega (arith, lt))
reply_at n keys (p ∷ payloads) [] are i lt = absurd are
reply_at n keys (p ∷ payloads) (r ∷ replies) are zero lt = record {
  reply = r;
  stands = refl;
  is_at = record { payload = p; at = refl; whole = are.0.whole; ends = are.0.ends };
}
reply_at n keys (p ∷ payloads) (r ∷ replies) are (suc i) lt =
    behind n p payloads i replies i r (reply_at n (keys_after keys r) payloads replies are.1 i (omega (arith, lt)))

as_many : (n : ℕ) (keys : KnownKeys) (payloads : List (List ℕ)) (replies : List Reply) →
    AreReplies n keys payloads replies → length payloads ≡ length replies
as_many n keys [] [] are = refl
as_many n keys [] (r ∷ replies) are = absurd are
as_many n keys (p ∷ payloads) [] are = absurd are
as_many n keys (p ∷ payloads) (r ∷ replies) are = ap suc (as_many n (keys_after keys r) payloads replies are.1)

module _ (s : Search) (replies : List Reply) (payloads : List (List ℕ)) (text : IsLedgerText s replies payloads) where
  -- a record for each reply, and the first
  pub one_more : length payloads ≡ suc (length replies)
  one_more = ap length text.split ∙ ap suc (as_many s.polyhedron.n (first_keys s) text.others replies text.are_replies)

  at_next : (i : ℕ) → suc i < length payloads → HasReplyAt s.polyhedron.n payloads (suc i) replies i
  at_next i lt =
      let h = reply_at s.polyhedron.n (first_keys s) text.others replies text.are_replies i
      (omega (arith, lt, ap length text.split)) in
      record {
        reply = h.reply;
        stands = h.stands;
        is_at = record {
          payload = h.is_at.payload;
          at = ap (λ (l : List (List ℕ)). slice_get l (suc i)) text.split ∙ h.is_at.at;
          whole = h.is_at.whole;
          ends = h.is_at.ends;
        };
      }

  -- each payload behind the first is a reply
  pub is_reply : (i : ℕ) → 0 < i → i < length payloads → HasReplyAt s.polyhedron.n payloads i replies (i - 1)
  is_reply zero some lt = absurd (omega (arith, some))
  is_reply (suc i) some lt =
      let e : i ≡ suc i - 1 = omega arith in
      subst (λ k. HasReplyAt s.polyhedron.n payloads (suc i) replies k) e (at_next i lt)

  -- so none is unreadable
  pub none_is_bad : (place : ℕ) → IsNoReplyAt s.polyhedron.n payloads place → ⊥
  none_is_bad place bad =
      let h = is_reply (place - 1) (omega (arith, bad.behind)) (omega (arith, bad.behind, bad.within)) in
      bad.none h.reply h.is_at

-- ---- the rows of the replies from a place on

drop_at : (replies : List Reply) (i : ℕ) (r : Reply) → slice_get replies i ≡ Some r →
    drop i replies ≡ r ∷ drop (suc i) replies
drop_at [] i r e = let h : ⊥ = cc in absurd h
drop_at (x ∷ replies) zero r e = let same : x ≡ r = cc in ap (λ z. z ∷ replies) same
drop_at (x ∷ replies) (suc i) r e = drop_at replies i r e

rows_from : (replies : List Reply) (i : ℕ) (r : Reply) → slice_get replies i ≡ Some r →
    recorded_rows (drop i replies) ≡ r.rows ++ recorded_rows (drop (suc i) replies)
rows_from replies i r e = ap recorded_rows (drop_at replies i r e)

-- the reply of the record at a place, whose rows are those before all rows behind it
pub record IsNextReply (n : ℕ) (payloads : List (List ℕ)) (replies : List Reply) (i : ℕ) : Type 0 where
  pub reply : Reply
  pub is_at : IsReplyAt n payloads i reply
  pub rows : recorded_rows (drop (i - 1) replies) ≡ reply.rows ++ recorded_rows (drop (i + 1 - 1) replies)

module _ (s : Search) (replies : List Reply) (payloads : List (List ℕ)) (text : IsLedgerText s replies payloads) where
  pub next_reply : (n : ℕ) → s.polyhedron.n ≡ n → (i : ℕ) → 0 < i → i < length payloads →
      IsNextReply n payloads replies i
  next_reply n same i some within =
      let h = is_reply s replies payloads text i some within in
      let e : suc (i - 1) ≡ i + 1 - 1 = omega (arith, some) in
      record {
        reply = h.reply;
        is_at = subst (λ m. IsReplyAt m payloads i h.reply) same h.is_at;
        rows = subst (λ k. recorded_rows (drop (i - 1) replies) ≡ h.reply.rows ++ recorded_rows (drop k replies)) e
            (rows_from replies (i - 1) h.reply h.stands);
      }

  -- behind the last record there are none
  pub no_rows_left : (i : ℕ) → length payloads ≤ i → recorded_rows (drop (i - 1) replies) ≡ []
  no_rows_left i past =
      ap recorded_rows (drop_all (i - 1) replies (omega (arith, past, one_more s replies payloads text)))
