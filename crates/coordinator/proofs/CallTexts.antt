-- The records of a call stay a ledger text, and what they record is printed.
use Rattle.std.proofs.Common.{ℕ, List, ◌≡◌, ◌⊎◌, inl, inr, [], ◌∷◌, ◌++◌, refl, sym, ap, ◌∙◌, subst, Option, Ok, Err, Result}
use Rattle.poly_model.specs.declared.listed.Listed.{Listed}
use Rattle.poly_reader.specs.Reading.{IsOfItsText}
use Rattle.work_core.specs.Searches.{Search}
use Rattle.job_text.specs.declared.reply.Reply.{Reply}
use Rattle.job_text.specs.FirstPayloads.{IsRootText, first_payload}
use Rattle.disk_core.specs.Contents.{Told}
use Rattle.disk_core.specs.declared.disk.Disk.{Ghosts as Disk}
use Rattle.disk_core.specs.Moments.{LeavesOnly}
use Rattle.disk_core.proofs.Moments.{joined}
use Rattle.job_ledger.specs.Ledgers.{IsLedgerAt, Known}
use Rattle.job_ledger.specs.Records.{HasNoRun, Records}
use Rattle.run_state.specs.Payloads.{IsLedgerText}
use Rattle.run_state.specs.Runs.{first_run}
use Rattle.run_state.proofs.FollowLemmas.{run-search}
use Rattle.coordinator_core.specs.declared.options.Options.{Options}
use Rattle.coordinator_core.specs.Machine.{State}
use Rattle.coordinator_core.specs.Traces.{accepted}
use Rattle.workers_io.specs.History.{Happening}
use Rattle.coordinator_laws.specs.Courses.{Course, start_in}
use Rattle.coordinator_laws.proofs.CourseLaws.{events_keep_text}
use Rattle.coordinator.specs.Calls.{PrintsRecords, state_after}
use Rattle.coordinator.specs.Following.{Finishes, LeadsSomewhere, LeadsTo}
use Rattle.coordinator.specs.Leaving.{HasFront, LeavesFronts}
use Rattle.coordinator.specs.Ending.{PrintsWith}
use Rattle.coordinator.proofs.MoreRecords.{front_none}
use Rattle.coordinator.proofs.CallEnds.{writes_err, writes_ok}

-- ---- the records
pub first_text : (s : Search) → IsRootText s.work s.root → IsOfItsText s.polyhedron → IsLedgerText s [] (first_payload s ∷ [])
first_text s root file = record {
  first = first_payload s;
  others = [];
  split = refl;
  is_first = record { root = root; file = file; is_text = refl };
  are_replies = tt;
}

pub goes_text : (options : Options) (s : Search) (replies : List Reply) (payloads : List (List ℕ)) (last : State) (old new : Option (List Happening)) (texts : List (List ℕ)) →
    IsLedgerText s replies payloads → LeadsTo (state_after options s replies) last old new texts → (more : List Reply) × IsLedgerText s (replies ++ more) (payloads ++ texts)
goes_text options s replies payloads last old new texts t g =
    let c : Course = record { options = options; search = s; replies = replies; steps = g.steps; happenings = g.happenings; last = last } in (
      accepted (start_in c) g.steps,
      subst (λ (l : List (List ℕ)). IsLedgerText s (replies ++ accepted (start_in c) g.steps) (payloads ++ l)) (sym g.accepts)
          (events_keep_text c payloads (record { trace = g.trace; told_as = g.told_as }) t),
    )

pub searches_same : (options : Options) (s : Search) (replies : List Reply) (core : State) → core ≡ state_after options s replies → core.run.search ≡ s
searches_same options s replies core is = ap (λ (z : State). z.run.search) is ∙ run-search (first_run s) replies

-- ---- the disk
leaves_new : {D : Type 0} (disk : Disk D) (old mid new : D) (k : Known) (payloads texts : List (List ℕ)) →
    LeavesOnly disk.moment disk.since old mid (λ c. disk.images old c ⊎ (HasNoRun c ⊎ Records payloads c)) →
    IsLedgerAt k payloads (disk.seen mid) (disk.images mid) → LeavesFronts disk mid new k texts →
    LeavesOnly disk.moment disk.since old new (λ c. disk.images old c ⊎ (HasNoRun c ⊎ HasFront payloads texts c))
leaves_new {D} disk old mid new k payloads texts first at f =
    joined disk.moment disk.since old mid new before (HasFront payloads texts) after first (f payloads at) wider (λ c h. inr (inr h))
  where
    before : List ℕ → Type 0
    before c = disk.images old c ⊎ (HasNoRun c ⊎ Records payloads c)

    after : List ℕ → Type 0
    after c = disk.images old c ⊎ (HasNoRun c ⊎ HasFront payloads texts c)

    wider : (c : List ℕ) → before c → after c
    wider c (inl a) = inl a
    wider c (inr (inl b)) = inr (inl b)
    wider c (inr (inr r)) = inr (inr (front_none payloads texts c r))

-- whatever a call answers that begins with these records
pub goes_new : {D : Type 0} (disk : Disk D) (s : State) (payloads : List (List ℕ)) (old mid new : D) (core : State) (k : Known) (told told' : Option (List Happening)) →
    Told (disk.seen old) (λ f. LeavesOnly disk.moment disk.since old mid (λ c. disk.images old c ⊎ (HasNoRun c ⊎ Records payloads c))) →
    core ≡ s → Told (disk.seen old) (λ f. IsLedgerAt k payloads (disk.seen mid) (disk.images mid)) →
    ((texts : List (List ℕ)) × LeadsSomewhere core told told' texts × LeavesFronts disk mid new k texts) →
    (texts : List (List ℕ)) × LeadsSomewhere s told told' texts
    × Told (disk.seen old) (λ f. LeavesOnly disk.moment disk.since old new (λ c. disk.images old c ⊎ (HasNoRun c ⊎ HasFront payloads texts c)))
goes_new disk s payloads old mid new core k told told' moments is at (texts, leads, leaves) = (
  texts,
  subst (λ (z : State). LeadsSomewhere z told told' texts) is leads,
  λ file there. leaves_new disk old mid new k payloads texts (moments file there) (at file there) leaves,
)

-- ---- what is printed
module _ {D : Type 0} (disk : Disk D) (options : Options) (s : Search) (replies : List Reply) (payloads texts : List (List ℕ)) (core : State) (k : Known)
    (mid : D) (o n : Option (List Happening)) (t : IsLedgerText s replies payloads) (is : core ≡ state_after options s replies) (f : Finishes core o n texts)
    (at : IsLedgerAt k payloads (disk.seen mid) (disk.images mid)) where
  all-records : (more : List Reply) × IsLedgerText s (replies ++ more) (payloads ++ texts)
  all-records = goes_text options s replies payloads f.last o n texts t (subst (λ (z : State). LeadsTo z f.last o n texts) is f.goes)

  same-polyhedron : s.polyhedron ≡ core.run.search.polyhedron
  same-polyhedron = sym (ap (λ (z : Search). z.polyhedron) (searches_same options s replies core is))

  pub prints_on : {E : Type 0} (w w' : Option (List ℕ)) (result : Result Listed E) →
      PrintsWith disk mid k texts core.run.search.polyhedron w w' result → PrintsRecords s (payloads ++ texts) w w' result
  prints_on w w' result p = record {
    replies = replies ++ all-records.0;
    is_text = all-records.1;
    writes = p payloads s (replies ++ all-records.0) at all-records.1 same-polyhedron;
  }

  -- over a disk that keeps its model each record is a reply
  pub never_bad : ((records : List (List ℕ)) (z : Search) (rs : List Reply) → IsLedgerAt k records (disk.seen mid) (disk.images mid) →
      IsLedgerText z rs (records ++ texts) → z.polyhedron ≡ core.run.search.polyhedron → ⊥) → ⊥
  never_bad bad = bad payloads s (replies ++ all-records.0) at all-records.1 same-polyhedron

-- with another word for why it stopped
pub printed_ok : {E F : Type 0} (s : Search) (records : List (List ℕ)) (old new : Option (List ℕ)) (listed : Listed) →
    PrintsRecords {E = E} s records old new (Ok listed) → PrintsRecords {E = F} s records old new (Ok listed)
printed_ok s records old new listed p = record { replies = p.replies; is_text = p.is_text; writes = writes_ok s p.replies old new listed p.writes }

pub printed_err : {E F : Type 0} (s : Search) (records : List (List ℕ)) (old new : Option (List ℕ)) (e : E) (f : F) →
    PrintsRecords {E = E} s records old new (Err e) → PrintsRecords {E = F} s records old new (Err f)
printed_err s records old new e f p = record { replies = p.replies; is_text = p.is_text; writes = writes_err s p.replies old new e f p.writes }
