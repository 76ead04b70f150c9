-- Payloads have one meaning: one search and one list of replies, or one first payload that is broken.
use Rattle.std.proofs.Common.{◌≡◌, ◌⊎◌, ◌+◌, ℕ, suc, List, [], ◌∷◌, ◌++◌, length, refl, sym, ap, ◌∙◌, subst, inl, inr}
use Rattle.job_text.specs.declared.reply.Reply.{Reply}
use Rattle.job_text.specs.FirstPayloads.{IsFirstPayload}
use Rattle.job_text.proofs.FirstPayloadLemmas.{one_first_payload}
use Rattle.job_text.proofs.OneReplyLemmas.{one_reply}
use Rattle.work_core.specs.Searches.{Search}
use Rattle.run_state.specs.KeyLists.{KnownKeys}
use Rattle.run_state.specs.Payloads.{AreReplies, AreShort, IsBadBehind, IsBrokenPayload, IsLedgerText, IsNextPayload, IsNoFirst, IsNoNext, first_keys, keys_after, keys_of}

-- ---- the replies of some payloads

pub one_replies : (n : ℕ) (keys : KnownKeys) (payloads : List (List ℕ)) → AreShort payloads → (a b : List Reply) →
    AreReplies n keys payloads a → AreReplies n keys payloads b → a ≡ b
one_replies n keys [] short [] [] x y = refl
one_replies n keys [] short [] (r ∷ b) x y = absurd y
one_replies n keys [] short (r ∷ a) b x y = absurd x
one_replies n keys (p ∷ payloads) short [] b x y = absurd x
one_replies n keys (p ∷ payloads) short (q ∷ a) [] x y = absurd y
one_replies n keys (p ∷ payloads) short (q ∷ a) (r ∷ b) x y =
    let first : q ≡ r = one_reply n q r p short.0 x.0.whole y.0.whole in
    let others = one_replies n (keys_after keys q) payloads short.1 a b x.1
    (subst (λ (z : Reply). AreReplies n (keys_after keys z) payloads b) (sym first) y.1) in
    (λ i. first i ∷ others i)

-- a payload among them, and the replies before it
pub record StandsBehind (n : ℕ) (keys : KnownKeys) (before : List (List ℕ)) (payload : List ℕ) : Type 0 where
  pub front : List Reply
  pub reply : Reply
  pub are_replies : AreReplies n keys before front
  pub next : IsNextPayload n (keys_of keys front) payload reply

stands_behind : (n : ℕ) (keys : KnownKeys) (before : List (List ℕ)) (payload : List ℕ) (behind : List (List ℕ)) (replies : List Reply) →
    AreReplies n keys (before ++ payload ∷ behind) replies → StandsBehind n keys before payload
stands_behind n keys [] payload behind [] x = absurd x
stands_behind n keys [] payload behind (r ∷ replies) x = record { front = []; reply = r; are_replies = tt; next = x.0 }
stands_behind n keys (p ∷ before) payload behind [] x = absurd x
stands_behind n keys (p ∷ before) payload behind (r ∷ replies) x =
    let rest = stands_behind n (keys_after keys r) before payload behind replies x.1 in
    record { front = r ∷ rest.front; reply = rest.reply; are_replies = (x.0, rest.are_replies); next = rest.next }

-- ---- a ledger text

heads : (p q : List ℕ) (ps qs : List (List ℕ)) → p ∷ ps ≡ q ∷ qs → p ≡ q
heads p q ps qs e = cc

tails : (p q : List ℕ) (ps qs : List (List ℕ)) → p ∷ ps ≡ q ∷ qs → ps ≡ qs
tails p q ps qs e = cc

not_empty : (p : List ℕ) (ps : List (List ℕ)) → [] ≡ p ∷ ps → ⊥
not_empty p ps e = absurd cc

pub is_some : (s : Search) (replies : List Reply) → IsLedgerText s replies [] → ⊥
is_some s replies t = not_empty t.first t.others t.split

pub first_of : (s : Search) (replies : List Reply) (p : List ℕ) (ps : List (List ℕ)) → IsLedgerText s replies (p ∷ ps) → IsFirstPayload s p
first_of s replies p ps t = subst (IsFirstPayload s) (sym (heads p t.first ps t.others t.split)) t.is_first

pub replies_of : (s : Search) (replies : List Reply) (p : List ℕ) (ps : List (List ℕ)) → IsLedgerText s replies (p ∷ ps) →
    AreReplies s.polyhedron.n (first_keys s) ps replies
replies_of s replies p ps t =
    subst (λ (l : List (List ℕ)). AreReplies s.polyhedron.n (first_keys s) l replies) (sym (tails p t.first ps t.others t.split)) t.are_replies

pub one_ledger : (payloads : List (List ℕ)) → AreShort payloads → (s t : Search) (a b : List Reply) → IsLedgerText s a payloads →
    IsLedgerText t b payloads → (s ≡ t) × (a ≡ b)
one_ledger [] short s t a b x y = absurd (is_some s a x)
one_ledger (p ∷ ps) short s t a b x y =
    let same : s ≡ t = one_first_payload s t p (first_of s a p ps x) (first_of t b p ps y) in (
      same,
      one_replies s.polyhedron.n (first_keys s) ps short.1 a b (replies_of s a p ps x)
          (subst (λ (z : Search). AreReplies z.polyhedron.n (first_keys z) ps b) (sym same) (replies_of t b p ps y)),
    )

-- ---- a broken payload

short_front : (front more : List (List ℕ)) → AreShort (front ++ more) → AreShort front
short_front [] more h = tt
short_front (p ∷ front) more h = (h.0, short_front front more h.1)

never_both : (before : List (List ℕ)) (payload : List ℕ) (behind : List (List ℕ)) → AreShort (before ++ payload ∷ behind) →
    (s t : Search) (a b : List Reply) → IsLedgerText s a (before ++ payload ∷ behind) → IsLedgerText t b before →
    IsNoNext t.polyhedron.n (keys_of (first_keys t) b) payload → ⊥
never_both [] payload behind short s t a b x y none = is_some t b y
never_both (p ∷ before) payload behind short s t a b x y none =
    let same : s ≡ t = one_first_payload s t p (first_of s a p (before ++ payload ∷ behind) x) (first_of t b p before y) in
    let there : StandsBehind t.polyhedron.n (first_keys t) before payload =
    stands_behind t.polyhedron.n (first_keys t) before payload behind a
    (subst (λ (z : Search). AreReplies z.polyhedron.n (first_keys z) (before ++ payload ∷ behind) a) same (replies_of s a p (before ++ payload ∷ behind) x)) in
    let front : there.front ≡ b = one_replies t.polyhedron.n (first_keys t) before (short_front before (payload ∷ behind) short.1) there.front b
    there.are_replies (replies_of t b p before y) in
    none there.reply (subst (λ (l : List Reply). IsNextPayload t.polyhedron.n (keys_of (first_keys t) l) payload there.reply) front there.next)

never_first : (payload : List ℕ) (behind before : List (List ℕ)) (s : Search) (a : List Reply) → before ≡ [] →
    IsLedgerText s a (before ++ payload ∷ behind) → IsNoFirst payload → ⊥
never_first payload behind before s a e x none =
    none s (first_of s a payload behind (subst (λ (l : List (List ℕ)). IsLedgerText s a (l ++ payload ∷ behind)) e x))

pub not_broken : (payloads : List (List ℕ)) → AreShort payloads → (s : Search) (a : List Reply) (n : ℕ) → IsLedgerText s a payloads →
    IsBrokenPayload n payloads → ⊥
not_broken payloads short s a n x y =
    let text : IsLedgerText s a (y.before ++ y.payload ∷ y.behind) = subst (λ (l : List (List ℕ)). IsLedgerText s a l) y.split x in
    elim y.breaks [
      | inl h ↦ never_first y.payload y.behind y.before s a h.0 text h.1
      | inr h ↦ never_both y.before y.payload y.behind (subst (λ (l : List (List ℕ)). AreShort l) y.split short) s h.0 a h.1 text h.2 h.3
    ]

-- ---- two broken payloads

-- of two places in one list: the same, or one before the other
abbrev Places : List (List ℕ) → List (List ℕ) → List ℕ → List ℕ → Type 0
Places a b p q =
    (length a ≡ length b)
    ⊎ (((x : List (List ℕ)) × (b ≡ a ++ p ∷ x)) ⊎ ((x : List (List ℕ)) × (a ≡ b ++ q ∷ x)))

further : (z y : List ℕ) (a b : List (List ℕ)) (p q : List ℕ) → z ≡ y → Places a b p q → Places (z ∷ a) (y ∷ b) p q
further z y a b p q e (inl same) = inl (ap suc same)
further z y a b p q e (inr (inl h)) = inr (inl (h.0, λ i. sym e i ∷ h.1 i))
further z y a b p q e (inr (inr h)) = inr (inr (h.0, λ i. e i ∷ h.1 i))

compare : (a b : List (List ℕ)) (p q : List ℕ) (x y : List (List ℕ)) → a ++ p ∷ x ≡ b ++ q ∷ y → Places a b p q
compare [] [] p q x y e = inl refl
compare [] (z ∷ b) p q x y e = inr (inl (b, ap (λ (k : List ℕ). k ∷ b) (sym (heads p z x (b ++ q ∷ y) e))))
compare (z ∷ a) [] p q x y e = inr (inr (a, ap (λ (k : List ℕ). k ∷ a) (heads z q (a ++ p ∷ x) y e)))
compare (z ∷ a) (w ∷ b) p q x y e =
    further z w a b p q (heads z w (a ++ p ∷ x) (b ++ q ∷ y) e) (compare a b p q x y (tails z w (a ++ p ∷ x) (b ++ q ∷ y) e))

-- what stands before a broken payload is a ledger text, if it is some
before_is_text : (payload : List ℕ) (before front : List (List ℕ)) (one : List ℕ) (x : List (List ℕ)) → before ≡ front ++ one ∷ x →
    IsBadBehind before payload → (s : Search) × (replies : List Reply) × IsLedgerText s replies before
before_is_text payload before [] one x e (inl h) = absurd (not_empty one x (sym h.0 ∙ e))
before_is_text payload before (f ∷ front) one x e (inl h) = absurd (not_empty f (front ++ one ∷ x) (sym h.0 ∙ e))
before_is_text payload before front one x e (inr h) = (h.0, h.1, h.2)

-- so none is broken before it
none_before : (payloads : List (List ℕ)) → AreShort payloads → (m n : ℕ) (a : IsBrokenPayload m payloads) (b : IsBrokenPayload n payloads) →
    (x : List (List ℕ)) → b.before ≡ a.before ++ a.payload ∷ x → ⊥
none_before payloads short m n a b x e =
    let text = before_is_text b.payload b.before a.before a.payload x e b.breaks in
    not_broken b.before
    (short_front b.before (b.payload ∷ b.behind) (subst (λ (l : List (List ℕ)). AreShort l) b.split short)) text.0 text.1 (length a.before + 1) text.2
    (record { before = a.before; payload = a.payload; behind = x; split = e; count = refl; breaks = a.breaks })

pub one_broken : (payloads : List (List ℕ)) → AreShort payloads → (m n : ℕ) → IsBrokenPayload m payloads → IsBrokenPayload n payloads → m ≡ n
one_broken payloads short m n a b =
    elim (compare a.before b.before a.payload b.payload a.behind b.behind (sym a.split ∙ b.split)) [
      | inl same ↦ a.count ∙ ap (λ (k : ℕ). k + 1) same ∙ sym b.count
      | inr h ↦ elim h [
        | inl k ↦ absurd (none_before payloads short m n a b k.0 k.1)
        | inr k ↦ absurd (none_before payloads short n m b a k.0 k.1)
      ]
    ]
