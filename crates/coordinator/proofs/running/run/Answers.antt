use Rattle.std.proofs.Common.{◌∷◌, [], inl, inr, refl, Err, ap, subst}
use Rattle.disk_core.proofs.Moments.{weaker}
use Rattle.job_text.specs.FirstPayloads.{first_payload}
use Rattle.job_ledger.specs.Ledgers.{new_ledger}
use Rattle.run_ledger.specs.Recorded.{search_in}
use Rattle.run_ledger.proofs.Errors.{none_rose, one_error}
use Rattle.coordinator_core.specs.Machine.{State}
use Rattle.coordinator.specs.declared.stops.GoStop.TheVariants.{DiskFault, WriteFault}
use Rattle.coordinator.specs.declared.stops.RunStop.TheVariants.{BadLedger, LedgerLimit, Lost, Overflow, DiskFault as RunDiskFault, WriteFault as RunWriteFault}
use Rattle.coordinator.specs.Calls.{state_after}
use Rattle.coordinator.specs.Following.{EndsBy, Finishes, GivesUp, LeadsSomewhere}
use Rattle.coordinator.proofs.CallLemmas.{goes_none}
use Rattle.coordinator.proofs.CallFaults.{rises_as}
use Rattle.coordinator.proofs.CallTexts.{first_text, goes_new, never_bad, printed_err, printed_ok, prints_on}
use Rattle.coordinator.proofs.MoreRecords.{front_none, refused_join, refused_one}
use Rattle.coordinator.proofs.running.run.Goals as goal

-- ---- whatever the answer of the call behind the beginning
pub returns-in-Ok-go_on-clause-goes : goal.returns-in-Ok-go_on-clause-goes
returns-in-Ok-go_on-clause-goes g c =
    goes_new g.D.Disk _ (first_payload (search_in c.args.first) ∷ []) c.args.disk.now c.begin.new.disk c.go_on.new.disk c.in-Ok.begun.core c.in-Ok.begun.ledger _ _
    c.in-Ok.ensures.moments c.in-Ok.ensures.core c.in-Ok.ensures.kept c.go_on.ensures.goes

pub returns-in-Ok-clause-goes : goal.returns-in-Ok-clause-goes
returns-in-Ok-clause-goes g c =
    goes_new g.D.Disk _ (first_payload (search_in c.args.first) ∷ []) c.args.disk.now c.begin.new.disk c.go_on.new.disk c.in-Ok.begun.core c.in-Ok.begun.ledger _ _
    c.in-Ok.ensures.moments c.in-Ok.ensures.core c.in-Ok.ensures.kept c.go_on.ensures.goes

-- ---- to the end
pub returns-in-Ok-go_on-clause-done : goal.returns-in-Ok-go_on-clause-done
returns-in-Ok-go_on-clause-done g c =
    let p = c.in-Ok-go_on.ensures.done in
    let s = search_in c.args.first in
    let h = g.W.Workers.history in
    let payloads = first_payload s ∷ [] in (
      p.0,
      subst (λ (z : State). Finishes z (h c.args.workers.now) (h c.go_on.new.workers) p.0) c.in-Ok.ensures.core p.1,
      λ file told. (
        c.in-Ok.ensures.fresh file told,
        p.2 payloads (c.in-Ok.ensures.kept file told),
        printed_ok s (first_payload s ∷ p.0) _ _ c.in-Ok-go_on.listed
            (prints_on g.D.Disk c.args.terms.now.options s [] payloads p.0 c.in-Ok.begun.core c.in-Ok.begun.ledger c.begin.new.disk _ _
            (first_text s c.requires.may.root c.requires.may.file) c.in-Ok.ensures.core p.1 (c.in-Ok.ensures.kept file told) _ _ _ p.3),
      ),
    )

pub returns-in-Ok-clause-part : goal.returns-in-Ok-clause-part
returns-in-Ok-clause-part g c =
    let s = search_in c.args.first in
    let h = g.W.Workers.history in
    let payloads = first_payload s ∷ [] in
    elim c.in-Err-go_on.ensures.part [
      | inl same ↦ inl same
      | inr p ↦ inr (
        p.0,
        subst (λ (z : State). Finishes z (h c.args.workers.now) (h c.go_on.new.workers) p.0) c.in-Ok.ensures.core p.1,
        λ file told. (
          p.2 payloads (c.in-Ok.ensures.kept file told),
          printed_err s (first_payload s ∷ p.0) _ _ c.in-Err-go_on.stop c.run_stop.result
              (prints_on g.D.Disk c.args.terms.now.options s [] payloads p.0 c.in-Ok.begun.core c.in-Ok.begun.ledger c.begin.new.disk _ _
              (first_text s c.requires.may.root c.requires.may.file) c.in-Ok.ensures.core p.1 (c.in-Ok.ensures.kept file told) _ _ _ p.3),
        ),
      )
    ]

-- ---- stopped
pub returns-in-Ok-clause-lost : goal.returns-in-Ok-clause-lost
returns-in-Ok-clause-lost g c lost strays is =
    let p = c.in-Err-go_on.ensures.lost lost strays (ap Err (c.run_stop.ensures.lost lost strays (one_error c.run_stop.result (Lost lost strays) is))) in
    let h = g.W.Workers.history in (
      p.0,
      p.1,
      subst (λ (z : State). GivesUp z lost strays (h c.args.workers.now) (h c.go_on.new.workers) p.1) c.in-Ok.ensures.core p.2,
      λ file told. p.3 (first_payload (search_in c.args.first) ∷ []) (c.in-Ok.ensures.kept file told),
    )

pub returns-in-Ok-clause-overflow : goal.returns-in-Ok-clause-overflow
returns-in-Ok-clause-overflow g c o is =
    let p = c.in-Err-go_on.ensures.overflow o (ap Err (c.run_stop.ensures.overflow o (one_error c.run_stop.result (Overflow o) is))) in
    let h = g.W.Workers.history in (
      p.0,
      inr (
        p.1,
        subst (λ (z : State). EndsBy z o (h c.args.workers.now) (h c.go_on.new.workers) p.1) c.in-Ok.ensures.core p.2,
        λ file told. p.3 (first_payload (search_in c.args.first) ∷ []) (c.in-Ok.ensures.kept file told),
      ),
    )

pub returns-in-Ok-clause-past : goal.returns-in-Ok-clause-past
returns-in-Ok-clause-past g c need most is =
    let p = c.in-Err-go_on.ensures.past need most (ap Err (c.run_stop.ensures.limit need most (one_error c.run_stop.result (LedgerLimit need most) is))) in
    let h = g.W.Workers.history in (
      p.0,
      p.1,
      subst (λ (z : State). LeadsSomewhere z (h c.args.workers.now) (h c.go_on.new.workers) p.1) c.in-Ok.ensures.core p.2,
      refused_join (new_ledger c.args.terms.now.limit) c.in-Ok.begun.ledger (first_payload (search_in c.args.first) ∷ []) p.1 need most c.in-Ok.ensures.knows p.4,
    )

pub returns-in-Ok-clause-bad : goal.returns-in-Ok-clause-bad
returns-in-Ok-clause-bad g c place is file told =
    let p = c.in-Err-go_on.ensures.bad place (ap Err (c.run_stop.ensures.bad place (one_error c.run_stop.result (BadLedger place) is))) in
    let s = search_in c.args.first in
    never_bad g.D.Disk c.args.terms.now.options s [] (first_payload s ∷ []) p.0 c.in-Ok.begun.core c.in-Ok.begun.ledger c.begin.new.disk _ _
    (first_text s c.requires.may.root c.requires.may.file) c.in-Ok.ensures.core p.1 (c.in-Ok.ensures.kept file told) p.2

pub returns-in-Ok-clause-disk_cause : goal.returns-in-Ok-clause-disk_cause
returns-in-Ok-clause-disk_cause g c =
    rises_as DiskFault RunDiskFault c.in-Err-go_on.stop c.run_stop.result _ _ _ (none_rose RunDiskFault _ _ c.in-Ok.begun c.in-Ok.ensures.cause)
    c.run_stop.ensures.disk c.run_stop.ensures.disk_fails c.in-Err-go_on.ensures.disk_cause

pub returns-in-Ok-clause-sink_cause : goal.returns-in-Ok-clause-sink_cause
returns-in-Ok-clause-sink_cause g c =
    rises_as WriteFault RunWriteFault c.in-Err-go_on.stop c.run_stop.result _ _ _ refl
    c.run_stop.ensures.write c.run_stop.ensures.write_fails c.in-Err-go_on.ensures.sink_cause

-- ---- not begun
pub returns-clause-goes : goal.returns-clause-goes
returns-clause-goes g c =
    let payloads = first_payload (search_in c.args.first) ∷ [] in (
      [],
      inl (state_after c.args.terms.now.options (search_in c.args.first) [], goes_none _ _),
      λ file told. weaker g.D.Disk.moment g.D.Disk.since c.args.disk.now c.begin.new.disk _ _ (c.in-Err.ensures.moments file told) (λ e h. elim h [
        | inl a ↦ inl a
        | inr b ↦ elim b [ inl n ↦ inr (inl n) | inr r ↦ inr (inr (front_none payloads [] e r)) ]
      ]),
    )

pub returns-clause-past : goal.returns-clause-past
returns-clause-past g c need most is =
    let past = c.in-Err.ensures.past need most (ap Err (one_error c.in-Err.stop (LedgerLimit need most) is)) in (
      refl,
      [],
      inl (state_after c.args.terms.now.options (search_in c.args.first) [], goes_none _ _),
      refused_one (new_ledger c.args.terms.now.limit) (first_payload (search_in c.args.first)) need most past,
    )
