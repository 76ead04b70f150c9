-- Payloads that are some are a ledger text or have a broken one, and never both.
use Rattle.std.proofs.Common.{arith, ◌≡◌, ◌⊎◌, ◌<◌, ◌+◌, ◌^◌, ℕ, true, List, [], ◌∷◌, ◌++◌, length, refl, sym, subst, inl, inr, append_assoc, append-nil}
use Rattle.std.specs.List.{Contains}
use Rattle.std.proofs.lemmas.Bool.{cases_Bool}
use Rattle.job_text.specs.declared.reply.Reply.{Reply}
use Rattle.job_text.specs.declared.reply.Tail.{Tail}
use Rattle.job_text.specs.declared.reply.Tail.TheVariants.{End, Memory, Overflow}
use Rattle.job_text.proofs.JobOrBadLemmas.{Known, both}
use Rattle.job_text.proofs.OneReplyLemmas.{one_reply}
use Rattle.work_core.specs.Searches.{Search}
use Rattle.run_state.specs.KeyLists.{KnownKeys, are_new, holds}
use Rattle.run_state.specs.Laws.{PayloadsHaveOneMeaning}
use Rattle.run_state.specs.Payloads.{AreShort, FitsIn, IsBrokenPayload, IsLedgerText, IsNextPayload, SaysEnd, first_keys, keys_of}
use Rattle.job_text.proofs.FirstPayloadsTried.{first_known}
use Rattle.run_state.proofs.FollowLemmas.{ledger-join}
use Rattle.run_state.proofs.KeyListLemmas.{held, not_held}
use Rattle.run_state.proofs.MeaningLemmas.{not_broken, one_broken, one_ledger}
use Rattle.job_text.proofs.RepliesTried.{reply_known}
use Rattle.job_text.proofs.TriedTexts.{known_as}

-- ---- the next payload

waits_known : (keys : List (List ℕ)) (key : List ℕ) → Known (Contains keys key)
waits_known keys key = elim (cases_Bool (holds keys key)) [
  | inl y ↦ inl (held keys key y)
  | inr n ↦ inr (not_held keys key n)
]

are_new_known : (known keys : List (List ℕ)) → Known (are_new known keys ≡ true)
are_new_known known keys = elim (cases_Bool (are_new known keys)) [
  | inl y ↦ inl y
  | inr n ↦ inr (λ y. absurd cc)
]

fits_known : (keys : KnownKeys) (r : Reply) → Known (FitsIn keys r)
fits_known keys r = known_as (λ h. record { waits = h.0; new_keys = h.1 }) (λ f. (f.waits, f.new_keys))
    (both (waits_known keys.waiting r.key) (are_new_known (keys.waiting ++ keys.done) r.keys))

end_known : (t : Tail) → Known (SaysEnd t)
end_known (End count) = inl tt
end_known (Overflow o) = inr (λ h. h)
end_known Memory = inr (λ h. h)

next_known : (n : ℕ) (keys : KnownKeys) (payload : List ℕ) → length payload < 2 ^ 64 → Known ((r : Reply) × IsNextPayload n keys payload r)
next_known n keys payload short = elim (reply_known n payload short) [
  | inl found ↦
      let (r, whole) = found in
      elim (both (end_known r.tail) (fits_known keys r)) [
        | inl h ↦ inl (r, record { whole = whole; ends = h.0; fits = h.1 })
        | inr none ↦ inr (λ h.
            let (other, x) = h in
            none (subst (λ (z : Reply). SaysEnd z.tail × FitsIn keys z) (one_reply n other r payload short x.whole whole) (x.ends, x.fits)))
      ]
  | inr none ↦ inr (λ h. let (r, x) = h in none (r, x.whole))
]

-- ---- one of the two

abbrev TextOrBroken : List (List ℕ) → Type 0
TextOrBroken payloads =
    ((s : Search) × (replies : List Reply) × IsLedgerText s replies payloads) ⊎ ((number : ℕ) × IsBrokenPayload number payloads)

-- the payloads that are left, behind a ledger text
go_on : (s : Search) (replies : List Reply) (before rest : List (List ℕ)) → AreShort rest → IsLedgerText s replies before →
    TextOrBroken (before ++ rest)
go_on s replies before [] short t = inl (s, replies, subst (λ (l : List (List ℕ)). IsLedgerText s replies l) (sym (append-nil before)) t)
go_on s replies before (p ∷ rest) short t = elim (next_known s.polyhedron.n (keys_of (first_keys s) replies) p short.0) [
  | inl found ↦
      let (r, x) = found in
      subst TextOrBroken (append_assoc before (p ∷ []) rest)
      (go_on s (replies ++ r ∷ []) (before ++ p ∷ []) rest short.1 (ledger-join s replies (r ∷ []) before (p ∷ []) t (x, tt)))
  | inr none ↦ inr (
    length before + 1,
    record {
      before = before;
      payload = p;
      behind = rest;
      split = refl;
      count = refl;
      breaks = inr (s, replies, t, λ r x. none (r, x));
    },
  )
]

text_or_broken : (payloads : List (List ℕ)) → AreShort payloads → 0 < length payloads → TextOrBroken payloads
text_or_broken [] short some = absurd (omega (arith, some))
text_or_broken (p ∷ rest) short some = elim (first_known p short.0) [
  | inl found ↦
      let (s, f) = found in
      go_on s [] (p ∷ []) rest short.1 (record { first = p; others = []; split = refl; is_first = f; are_replies = tt })
  | inr none ↦ inr (
    1,
    record { before = []; payload = p; behind = rest; split = refl; count = refl; breaks = inl (refl, λ s f. none (s, f)) },
  )
]

pub payloads_have_one_meaning : PayloadsHaveOneMeaning
payloads_have_one_meaning payloads short = record {
  some = text_or_broken payloads short;
  one_search = one_ledger payloads short;
  one_place = one_broken payloads short;
  not_both = not_broken payloads short;
}
