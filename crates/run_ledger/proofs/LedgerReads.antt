-- Reads of a ledger, one after the other: what they find, and what a quiet call leaves of it.
use Rattle.std.proofs.Common.{arith, ◌≡◌, ◌<◌, ◌≤◌, ℕ, ◌+◌, List, [], ◌∷◌, ◌++◌, Option, Some, refl, sym, ap, subst, ◌∙◌, length, take, slice_get}
use Rattle.std.proofs.lemmas.List.{length-append, length-map, take_more}
use Rattle.std.proofs.lemmas.Option.{get_or_from_slice_get, slice_get_within}
use Rattle.std.proofs.Math.Seq.{take-length}
use Rattle.disk_core.specs.Images.{Images}
use Rattle.disk_core.specs.Moments.{IsQuiet}
use Rattle.disk_core.specs.declared.disk.Disk.{Ghosts as Disk}
use Rattle.job_text.specs.declared.reply.Reply.{Reply}
use Rattle.job_text.specs.Replies.{IsWholeReply}
use Rattle.job_ledger.specs.Ledgers.{IsLedgerAt, Known}
use Rattle.run_state.specs.Payloads.{IsBadBehind, IsBrokenPayload}
use Rattle.run_state.specs.Runs.{IsRunOf, Run}
use Rattle.run_state.proofs.FollowLemmas.{broken-in}
use Rattle.run_ledger.specs.Recorded.{IsPayloadAt, IsReplyAt, IsRunOfFirst}

-- a quiet call leaves a ledger where it is
pub stays : {D : Type 0} (disk : Disk D) (old new : D) → IsQuiet disk.seen disk.images disk.moment disk.since old new →
    (ledger : Known) (payloads : List (List ℕ)) → IsLedgerAt ledger payloads (disk.seen old) (disk.images old) →
    IsLedgerAt ledger payloads (disk.seen new) (disk.images new)
stays disk old new quiet ledger payloads at = record {
  file = at.file;
  told = quiet.same ∙ at.told;
  has = at.has;
  sizes = at.sizes;
  settled = λ c now. at.settled c (quiet.nothing_new c now);
}

module _ (ledger : Known) (payloads : List (List ℕ)) (seen : Option (List ℕ)) (images : Images)
    (at : IsLedgerAt ledger payloads seen images) where
  pub size_known : length ledger.sizes ≡ length payloads
  size_known = ap length at.sizes ∙ length-map payloads length

  -- a number below the count of the records, and one past them
  pub within : (i count : ℕ) → i < count → count ≡ length ledger.sizes → i < length payloads
  within i count lt e = omega (arith, lt, e, size_known)

  pub past : (i count : ℕ) → count ≤ i → count ≡ length ledger.sizes → length payloads ≤ i
  past i count ge e = omega (arith, ge, e, size_known)

take_next : (payloads : List (List ℕ)) (i : ℕ) (payload : List ℕ) → slice_get payloads i ≡ Some payload →
    take (i + 1) payloads ≡ take i payloads ++ payload ∷ []
take_next payloads i payload at =
    take_more payloads i payload (slice_get_within payloads i payload at)
    ∙ ap (λ p. take i payloads ++ p ∷ []) (get_or_from_slice_get payloads i payload payload at)

-- a payload that may not stand behind those before it is the first that breaks the ledger text
pub broken_behind : (payloads : List (List ℕ)) (i : ℕ) (payload : List ℕ) → slice_get payloads i ≡ Some payload →
    IsBadBehind (take i payloads) payload → IsBrokenPayload (i + 1) payloads
broken_behind payloads i payload at bad =
    broken-in payloads i payload (slice_get_within payloads i payload at)
    (subst (λ (p : List ℕ). IsBadBehind (take i payloads) p)
    (sym (get_or_from_slice_get payloads i payload payload at)) bad)

-- a reply at a place is the payload that was read there
pub whole_there : (n : ℕ) (payloads : List (List ℕ)) (i : ℕ) (r : Reply) (payload bytes : List ℕ) →
    IsReplyAt n payloads i r → slice_get payloads i ≡ Some payload → bytes ≡ payload → IsWholeReply n r bytes
whole_there n payloads i r payload bytes is at same =
    subst (λ (p : List ℕ). IsWholeReply n r p)
    (sym (get_or_from_slice_get payloads i is.payload [] is.at) ∙ get_or_from_slice_get payloads i payload [] at
    ∙ sym same)
    is.whole

module _ (ledger : Known) (seen : Option (List ℕ)) (images : Images) where
  pub run_of_one : (run : Run) (payload : List ℕ) → IsRunOf run (payload ∷ []) →
      IsPayloadAt 0 payload ledger seen images → IsRunOfFirst run 1 ledger seen images
  run_of_one run payload is at = record {
    payloads = payload ∷ [];
    is_run = is;
    size = refl;
    are_first = λ all l. sym (take_next all 0 payload (at all l));
  }

  pub run_of_more : (run run' : Run) (i : ℕ) (payload : List ℕ) (h : IsRunOfFirst run i ledger seen images) →
      IsRunOf run' (h.payloads ++ payload ∷ []) → IsPayloadAt i payload ledger seen images →
      IsRunOfFirst run' (i + 1) ledger seen images
  run_of_more run run' i payload h is at = record {
    payloads = h.payloads ++ payload ∷ [];
    is_run = is;
    size = length-append h.payloads (payload ∷ []) ∙ ap (λ (k : ℕ). k + 1) h.size;
    are_first = λ all l.
        ap (λ (ps : List (List ℕ)). ps ++ payload ∷ []) (h.are_first all l) ∙ sym (take_next all i payload (at all l));
  }

  -- all of them
  pub all_of_run : (run : Run) (all : List (List ℕ)) (h : IsRunOfFirst run (length ledger.sizes) ledger seen images) →
      IsLedgerAt ledger all seen images → h.payloads ≡ all
  all_of_run run all h l =
      h.are_first all l ∙ ap (λ (k : ℕ). take k all) (size_known ledger all seen images l) ∙ take-length all
