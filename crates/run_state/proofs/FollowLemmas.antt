-- Payloads one after the other.
use Rattle.std.proofs.Common.{arith, ℕ, List, ◌≡◌, inr, ◌+◌, ◌<◌, [], ◌∷◌, ◌++◌, refl, sym, ap, ◌∙◌, subst, length, take, drop, get_or, append_assoc}
use Rattle.std.proofs.lemmas.List.{length-take-le, take_more, take-append-drop}
use Rattle.std.proofs.Math.Seq.{take-length}
use Rattle.job_text.specs.declared.reply.Reply.{Reply}
use Rattle.job_text.specs.FirstPayloads.{IsFirstPayload}
use Rattle.job_text.specs.Replies.{IsWholeReply}
use Rattle.work_core.specs.Searches.{Search}
use Rattle.run_state.specs.Payloads.{AreReplies, FitsIn, IsBadBehind, IsBrokenPayload, IsLedgerText, IsNextPayload, IsNoNext, first_keys, keys_after, keys_of}
use Rattle.run_state.specs.KeyLists.{KnownKeys}
use Rattle.run_state.specs.Runs.{IsRunOf, Run, first_run, run_after, run_of}

pub no_next : (n : ℕ) (keys : KnownKeys) (payload : List ℕ) (r : Reply) → ((other : Reply) → IsWholeReply n other payload → other ≡ r) → (FitsIn keys r → ⊥) → IsNoNext n keys payload
no_next n keys payload r one not r' x = not (subst (FitsIn keys) (one r' x.whole) x.fits)

pub run-keys : (run : Run) (replies : List Reply) → (run_of run replies).keys ≡ keys_of run.keys replies
run-keys run [] = refl
run-keys run (r ∷ replies) = run-keys (run_after run r) replies

pub run-search : (run : Run) (replies : List Reply) → (run_of run replies).search ≡ run.search
run-search run [] = refl
run-search run (r ∷ replies) = run-search (run_after run r) replies

pub run-join : (run : Run) (replies others : List Reply) → run_of run (replies ++ others) ≡ run_of (run_of run replies) others
run-join run [] others = refl
run-join run (r ∷ replies) others = run-join (run_after run r) replies others

pub replies-join : (n : ℕ) (keys : KnownKeys) (payloads more : List (List ℕ)) (replies others : List Reply) →
    AreReplies n keys payloads replies → AreReplies n (keys_of keys replies) more others → AreReplies n keys (payloads ++ more) (replies ++ others)
replies-join n keys [] more [] others a b = b
replies-join n keys [] more (r ∷ replies) others a b = absurd a
replies-join n keys (p ∷ payloads) more [] others a b = absurd a
replies-join n keys (p ∷ payloads) more (r ∷ replies) others a b = (a.0, replies-join n (keys_after keys r) payloads more replies others a.1 b)

pub ledger-join : (s : Search) (replies others : List Reply) (payloads more : List (List ℕ)) → IsLedgerText s replies payloads →
    AreReplies s.polyhedron.n (keys_of (first_keys s) replies) more others → IsLedgerText s (replies ++ others) (payloads ++ more)
ledger-join s replies others payloads more t a = record {
  first = t.first;
  others = t.others ++ more;
  split = ap (λ (l : List (List ℕ)). l ++ more) t.split;
  is_first = t.is_first;
  are_replies = replies-join s.polyhedron.n (first_keys s) t.others more replies others t.are_replies a;
}

-- ---- one payload more

pub run-first : (payload : List ℕ) (s : Search) (run : Run) → IsFirstPayload s payload → run ≡ first_run s → IsRunOf run (payload ∷ [])
run-first payload s run f e = record {
  search = s;
  replies = [];
  is_text = record { first = payload; others = []; split = refl; is_first = f; are_replies = tt };
  is_run = e;
}

module _ (payloads : List (List ℕ)) (payload : List ℕ) (run : Run) (is : IsRunOf run payloads) where
  searched : run.search ≡ is.search
  searched = ap (λ (z : Run). z.search) is.is_run ∙ run-search (first_run is.search) is.replies

  keys_then : run.keys ≡ keys_of (first_keys is.search) is.replies
  keys_then = ap (λ (z : Run). z.keys) is.is_run ∙ run-keys (first_run is.search) is.replies

  pub run-next : (run' : Run) (r : Reply) → IsNextPayload run.search.polyhedron.n run.keys payload r → run' ≡ run_after run r →
      IsRunOf run' (payloads ++ payload ∷ [])
  run-next run' r x e =
      let x1 : IsNextPayload is.search.polyhedron.n run.keys payload r = subst (λ (z : Search). IsNextPayload z.polyhedron.n run.keys payload r) searched x in
      let x2 : IsNextPayload is.search.polyhedron.n (keys_of (first_keys is.search) is.replies) payload r = subst (λ (z : KnownKeys). IsNextPayload is.search.polyhedron.n z payload r) keys_then x1 in
      record {
        search = is.search;
        replies = is.replies ++ r ∷ [];
        is_text = ledger-join is.search is.replies (r ∷ []) payloads (payload ∷ []) is.is_text (x2, tt);
        is_run = e ∙ ap (λ (z : Run). run_after z r) is.is_run ∙ sym (run-join (first_run is.search) is.replies (r ∷ []));
      }

  pub bad-next : IsNoNext run.search.polyhedron.n run.keys payload → IsBadBehind payloads payload
  bad-next n =
      let n1 : IsNoNext is.search.polyhedron.n run.keys payload = subst (λ (z : Search). IsNoNext z.polyhedron.n run.keys payload) searched n in
      let n2 : IsNoNext is.search.polyhedron.n (keys_of (first_keys is.search) is.replies) payload = subst (λ (z : KnownKeys). IsNoNext is.search.polyhedron.n z payload) keys_then n1 in
      inr (is.search, is.replies, is.is_text, n2)

-- a payload that may not stand behind those before it is the first that breaks the ledger text, whatever comes behind it
pub broken-at : (before : List (List ℕ)) (payload : List ℕ) (behind : List (List ℕ)) → IsBadBehind before payload →
    IsBrokenPayload (length before + 1) (before ++ payload ∷ behind)
broken-at before payload behind bad = record { before = before; payload = payload; behind = behind; split = refl; count = refl; breaks = bad }

-- ---- the first i payloads of a list, and the next

pub run-more : (payloads : List (List ℕ)) (i : ℕ) (d : List ℕ) (run : Run) → i < length payloads →
    IsRunOf run (take i payloads ++ get_or payloads i d ∷ []) → IsRunOf run (take (i + 1) payloads)
run-more payloads i d run h is = subst (λ (z : List (List ℕ)). IsRunOf run z) (sym (take_more payloads i d h)) is

pub run-all : (payloads : List (List ℕ)) (i : ℕ) (run : Run) → i ≡ length payloads → IsRunOf run (take i payloads) → IsRunOf run payloads
run-all payloads i run e is = subst (λ (z : List (List ℕ)). IsRunOf run z) (ap (λ (k : ℕ). take k payloads) e ∙ take-length payloads) is

pub broken-in : (payloads : List (List ℕ)) (i : ℕ) (d : List ℕ) → i < length payloads → IsBadBehind (take i payloads) (get_or payloads i d) →
    IsBrokenPayload (i + 1) payloads
broken-in payloads i d h bad = record {
  before = take i payloads;
  payload = get_or payloads i d;
  behind = drop (i + 1) payloads;
  split = sym (take-append-drop (i + 1) payloads) ∙ ap (λ (l : List (List ℕ)). l ++ drop (i + 1) payloads) (take_more payloads i d h)
      ∙ append_assoc (take i payloads) (get_or payloads i d ∷ []) (drop (i + 1) payloads);
  count = ap (λ (k : ℕ). k + 1) (sym (length-take-le i payloads (omega arith)));
  breaks = bad;
}
