-- A run that goes on from the records of a file.
use Rattle.std.proofs.Common.{arith, ℕ, suc, List, ◌≡◌, ◌⊎◌, inl, inr, ◌<◌, ◌^◌, [], ◌∷◌, refl, sym, ap, ◌∙◌, subst, length, Option, Some, Ok, Err, Result, IfOk}
use Rattle.std.specs.List.{All}
use Rattle.std.proofs.lemmas.Bool.{le-ltb}
use Rattle.poly_model.specs.Equations.{AreConsistent}
use Rattle.work_core.specs.Searches.{Search}
use Rattle.job_text.specs.declared.reply.Reply.{Reply}
use Rattle.disk_core.specs.Contents.{Told}
use Rattle.disk_core.specs.declared.disk.Disk.{Ghosts as Disk}
use Rattle.disk_core.specs.Moments.{LeavesOnly}
use Rattle.disk_core.proofs.Moments.{joined}
use Rattle.job_ledger.specs.Ledgers.{IsLedgerAt, Known}
use Rattle.job_ledger.specs.Records.{IsShort, Records}
use Rattle.job_ledger.proofs.LayoutLemmas.{one_layout}
use Rattle.workers_io.specs.History.{Happening}
use Rattle.run_state.specs.Payloads.{AreShort, IsLedgerText}
use Rattle.run_state.specs.Runs.{IsRunOf, Run, first_run}
use Rattle.run_state.proofs.FollowLemmas.{run-search}
use Rattle.run_state.proofs.MeaningLemmas.{one_ledger}
use Rattle.coordinator_core.specs.declared.options.Options.{Options}
use Rattle.coordinator_core.specs.declared.action.Action.TheVariants.{Finish}
use Rattle.coordinator_core.specs.Machine.{State, next_action, start_of}
use Rattle.coordinator.specs.Calls.{RecordedRun, state_after, state_at}
use Rattle.coordinator.specs.Following.{LeadsSomewhere}
use Rattle.coordinator.specs.Leaving.{HasFront, LeavesFronts}

-- ---- what the file tells
abbrev pub recorded : (seen : Option (List ℕ)) (run : Run) (payloads : List (List ℕ)) → IsRunOf run payloads → Told seen (Records payloads) → RecordedRun seen
recorded seen run payloads w has = record { search = w.search; replies = w.replies; payloads = payloads; is_text = w.is_text; has = has }

pub searches_it : (run : Run) (payloads : List (List ℕ)) (w : IsRunOf run payloads) → run.search ≡ w.search
searches_it run payloads w = ap (λ (z : Run). z.search) w.is_run ∙ run-search (first_run w.search) w.replies

-- records of a file can be told by 64 bits
pub are_short : (payloads : List (List ℕ)) → All IsShort payloads → AreShort payloads
are_short [] h = tt
are_short (p ∷ payloads) h =
    let l : length p < 10 ^ 13 = h 0 p (omega arith) in
    (omega (arith, l), are_short payloads (λ k d lt. h (suc k) d (omega (arith, lt))))

-- one run alone
one_run : (seen : Option (List ℕ)) (file : List ℕ) → seen ≡ Some file → (a b : RecordedRun seen) → (a.search ≡ b.search) × (a.replies ≡ b.replies)
one_run seen file told a b =
    let same : a.payloads ≡ b.payloads = (one_layout file).one a.payloads b.payloads (a.has file told) (b.has file told) in
    one_ledger a.payloads (are_short a.payloads (a.has file told).short) a.search b.search a.replies b.replies a.is_text
    (subst (IsLedgerText b.search b.replies) (sym same) b.is_text)

-- ---- nothing is left to do where no key waits
finish_at : (options : Options) (run : Run) → run.keys.waiting ≡ [] → next_action (start_of options run) ≡ Finish
finish_at options run none = rw (le-ltb options.lost 0 (omega arith)) (rw none refl)

pub rests_there : (seen : Option (List ℕ)) (file : List ℕ) → seen ≡ Some file → (options : Options) (a b : RecordedRun seen) (core : State) → core ≡ state_at options a →
    (state_at options b).run.keys.waiting ≡ [] → next_action core ≡ Finish
rests_there seen file told options a b core is none =
    let same = one_run seen file told a b in
    let all : core ≡ state_at options b =
    is ∙ ap (λ (s : Search). state_after options s a.replies) same.0 ∙ ap (λ (rs : List Reply). state_after options b.search rs) same.1 in
    ap next_action all ∙ finish_at options (state_at options b).run none

-- ---- the ledger
known : ℕ → List ℕ → Known
known limit sizes = record { limit = limit; sizes = sizes }

pub known_as : (k : Known) (limit : ℕ) (sizes : List ℕ) → k.limit ≡ limit → k.sizes ≡ sizes → k ≡ record { limit = limit; sizes = sizes }
unfolding known
known_as k limit sizes a b = ap (λ (n : ℕ). known n k.sizes) a ∙ ap (known limit) b

leaves_on : {D : Type 0} (disk : Disk D) (old mid new : D) (k : Known) (payloads texts : List (List ℕ)) →
    LeavesOnly disk.moment disk.since old mid (disk.images old) → IsLedgerAt k payloads (disk.seen mid) (disk.images mid) →
    LeavesFronts disk mid new k texts → LeavesOnly disk.moment disk.since old new (λ c. disk.images old c ⊎ HasFront payloads texts c)
leaves_on {D} disk old mid new k payloads texts first at f =
    joined disk.moment disk.since old mid new (disk.images old) (HasFront payloads texts) after first (f payloads at) (λ c a. inl a) (λ c h. inr h)
  where
    after : List ℕ → Type 0
    after c = disk.images old c ⊎ HasFront payloads texts c

-- whatever a call answers that goes on from these records
pub goes_again : {D : Type 0} (disk : Disk D) (options : Options) (old mid new : D) (core : State) (k : Known) (told told' : Option (List Happening)) →
    LeavesOnly disk.moment disk.since old mid (disk.images old) →
    ((r : RecordedRun (disk.seen old)) × (core ≡ state_at options r) × AreConsistent r.search.polyhedron
    × Told (disk.seen old) (λ f. IsLedgerAt k r.payloads (disk.seen mid) (disk.images mid))) →
    ((texts : List (List ℕ)) × LeadsSomewhere core told told' texts × LeavesFronts disk mid new k texts) →
    (r : RecordedRun (disk.seen old)) × (texts : List (List ℕ)) × AreConsistent r.search.polyhedron
    × LeadsSomewhere (state_at options r) told told' texts
    × Told (disk.seen old) (λ f. LeavesOnly disk.moment disk.since old new (λ c. disk.images old c ⊎ HasFront r.payloads texts c))
goes_again disk options old mid new core k told told' quiet (r, is, consistent, at) (texts, leads, leaves) = (
  r,
  texts,
  consistent,
  subst (λ (z : State). LeadsSomewhere z told told' texts) is leads,
  λ file there. leaves_on disk old mid new k r.payloads texts quiet (at file there) leaves,
)

-- ---- three facts of a value
pub ok_three : {T E : Type 0} (r : Result T E) (P Q R S : T → Type 0) → ((x : T) → P x → Q x → R x → S x) → IfOk r P → IfOk r Q → IfOk r R → IfOk r S
ok_three (Ok x) P Q R S f p q r = f x p q r
ok_three (Err e) P Q R S f p q r = tt
