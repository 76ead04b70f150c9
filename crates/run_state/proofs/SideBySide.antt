-- After legal replies the waiting keys lie side by side, and no done key lies under a waiting one.
use Rattle.std.proofs.Common.{◌≡◌, ◌≢◌, inl, inr, ⊎_elim, ℕ, true, List, [], ◌∷◌, ◌++◌, sym, ◌∙◌, subst}
use Rattle.std.specs.List.{Contains}
use Rattle.std.proofs.lemmas.List.Elements.{Contains-append_cases, Contains-push_cases}
use Rattle.linear_laws.proofs.Members.{Contains-nil}
use Rattle.job_text.specs.declared.reply.Reply.{Reply}
use Rattle.work_core.specs.Meanings.{StandsUnder}
use Rattle.work_core.specs.Searches.{Search, meaning_of}
use Rattle.work_core.specs.Laws.{HasShares}
use Rattle.run_state.specs.KeyLists.{KnownKeys, are_new}
use Rattle.run_state.specs.Payloads.{FitsIn, first_keys, keys_after, keys_of}
use Rattle.run_state.specs.Legal.{AreSideBySide, IsLegalReply}
use Rattle.run_state.proofs.Followers.{Follow}
use Rattle.run_state.proofs.KeyListLemmas.{are_new_from}
use Rattle.run_state.proofs.Partitions.{is_only, key_after}

-- the invariant: all are keys of the work, and lie so
pub record AreInOrder (s : Search) (keys : KnownKeys) : Type 0 where
  pub waiting_keys : (k : List ℕ) → Contains keys.waiting k → (meaning_of s).is_key k
  pub done_keys : (k : List ℕ) → Contains keys.done k → (meaning_of s).is_key k
  pub side_by_side : AreSideBySide s keys

module _ (s : Search) (h : HasShares (meaning_of s)) (keys : KnownKeys) (o : AreInOrder s keys) (r : Reply) (waits : Contains keys.waiting r.key)
    (l : IsLegalReply s r) where
  -- an old key lies under no key that is given back, and none of these under it
  not_under : (j k : List ℕ) → Contains keys.waiting j → j ≢ r.key → Contains r.keys k → StandsUnder (meaning_of s) j k → ⊥
  not_under j k cj m ck u =
      let g = l.given k ck in m (o.side_by_side.waiting j r.key cj waits (h.through j k r.key (o.waiting_keys j cj) u g.under))

  not_over : (j k : List ℕ) → Contains r.keys j → Contains keys.waiting k → k ≢ r.key → StandsUnder (meaning_of s) j k → ⊥
  not_over j k cj ck m u =
      let g = l.given j cj in
      ⊎_elim (λ a. m (sym (o.side_by_side.waiting r.key k waits ck a))) (λ b. m (o.side_by_side.waiting k r.key ck waits b))
      (h.meet j r.key k g.key_of g.under u)

  waiting : (j k : List ℕ) → Contains (keys_after keys r).waiting j → Contains (keys_after keys r).waiting k → StandsUnder (meaning_of s) j k → j ≡ k
  waiting j k cj ck u = elim (key_after keys r j cj) [
    | inl a ↦ elim (key_after keys r k ck) [
      | inl b ↦ o.side_by_side.waiting j k a.0 b.0 u
      | inr b ↦ absurd (not_under j k a.0 a.1 b u)
    ]
    | inr a ↦ elim (key_after keys r k ck) [
      | inl b ↦ absurd (not_over j k a b.0 b.1 u)
      | inr b ↦ l.side_by_side j k a b u
    ]
  ]

  done_under : (d k : List ℕ) → Contains keys.done d → Contains (keys_after keys r).waiting k → StandsUnder (meaning_of s) d k → ⊥
  done_under d k cd ck u = elim (key_after keys r k ck) [
    | inl b ↦ o.side_by_side.done d k cd b.0 u
    | inr b ↦ o.side_by_side.done d r.key cd waits (h.through d k r.key (o.done_keys d cd) u (l.given k b).under)
  ]

  job_under : (k : List ℕ) → Contains (keys_after keys r).waiting k → StandsUnder (meaning_of s) r.key k → ⊥
  job_under k ck u = elim (key_after keys r k ck) [
    | inl b ↦ b.1 (sym (o.side_by_side.waiting r.key k waits b.0 u))
    | inr b ↦ let g = l.given k b in g.other (h.both k r.key g.key_of g.under u)
  ]

  done : (d k : List ℕ) → Contains (keys_after keys r).done d → Contains (keys_after keys r).waiting k → StandsUnder (meaning_of s) d k → ⊥
  done d k cd ck u = elim (Contains-push_cases keys.done r.key d cd) [
    | inl a ↦ done_under d k a ck u
    | inr e ↦ job_under k ck (subst (λ (q : List ℕ). StandsUnder (meaning_of s) q k) (sym e) u)
  ]

  pub in_order-next : AreInOrder s (keys_after keys r)
  in_order-next = record {
    waiting_keys = λ k c. ⊎_elim (λ a. o.waiting_keys k a.0) (λ b. (l.given k b).key_of) (key_after keys r k c);
    done_keys = λ k c. ⊎_elim (o.done_keys k) (λ (e : r.key ≡ k). subst ((meaning_of s).is_key) e (o.waiting_keys r.key waits)) (Contains-push_cases keys.done r.key k c);
    side_by_side = record { waiting = waiting; done = done };
  }

  -- so the keys that it gives back are new
  pub honest_is_new : are_new (keys.waiting ++ keys.done) r.keys ≡ true
  honest_is_new = are_new_from (keys.waiting ++ keys.done) r.keys l.parts.keys_once (λ k c d. elim (Contains-append_cases keys.waiting keys.done k d) [
    | inl a ↦ let g = l.given k c in g.other (o.side_by_side.waiting k r.key a waits g.under)
    | inr a ↦ o.side_by_side.done k r.key a waits (l.given k c).under
  ])

  pub honest_fits : FitsIn keys r
  honest_fits = record { waits = waits; new_keys = honest_is_new }

pub in_order-first : (s : Search) → HasShares (meaning_of s) → AreInOrder s (first_keys s)
in_order-first s h = record {
  waiting_keys = λ k c. subst ((meaning_of s).is_key) (sym (is_only k (meaning_of s).first_key c)) h.first;
  done_keys = λ k c. absurd (Contains-nil k c);
  side_by_side = record {
    waiting = λ j k cj ck u. is_only j (meaning_of s).first_key cj ∙ sym (is_only k (meaning_of s).first_key ck);
    done = λ d k cd ck u. Contains-nil d cd;
  };
}

pub in_order-after : (s : Search) → HasShares (meaning_of s) → (keys : KnownKeys) (replies : List Reply) → AreInOrder s keys → Follow s keys replies →
    AreInOrder s (keys_of keys replies)
in_order-after s h keys [] o f = o
in_order-after s h keys (r ∷ replies) o f =
    in_order-after s h (keys_after keys r) replies (in_order-next s h keys o r f.0.0.waits f.0.1) f.1
