use Rattle.std.proofs.Common.{rules, ◌≡◌, [], ◌∷◌, subst}
use Rattle.workers_io.specs.Collects.{happening_of}
use Rattle.coordinator_core.specs.declared.verdict.Verdict.{Verdict}
use Rattle.coordinator_core.specs.Machine.{verdict_of}
use Rattle.coordinator_laws.specs.Courses.{kept_text}
use Rattle.coordinator.specs.Leaving.{LeavesFronts}
use Rattle.coordinator.proofs.MoreRecords.{leaves_same}
use Rattle.coordinator.proofs.taking.take.Goals as goal
use Rattle.coordinator.proofs.taking.take.Given.{Over}
use Rattle.coordinator.proofs.taking.take.Goals.{After-keep}

pub returns-in-Err-clause-stopped : goal.returns-in-Err-clause-stopped
returns-in-Err-clause-stopped g c =
    let there = c.in-Err.ensures.there in
    (there.0, there.1, leaves_same g.D.Disk c.args.disk.now c.args.ledger.now _ g.met.D.Disk.only_now)

pub returns-in-Err-verdict_in-clause-stopped : goal.returns-in-Err-verdict_in-clause-stopped
returns-in-Err-verdict_in-clause-stopped g c =
    (c.in-Ok.event, c.in-Ok.ensures.event, leaves_same g.D.Disk c.args.disk.now c.args.ledger.now _ g.met.D.Disk.only_now)

pub returns-in-Ends-clause-stopped : goal.returns-in-Ends-clause-stopped
returns-in-Ends-clause-stopped g c =
    (c.in-Ok.event, c.in-Ok.ensures.event, leaves_same g.D.Disk c.args.disk.now c.args.ledger.now _ g.met.D.Disk.only_now)

-- ---- what it left in the ledger, said of the event
kept : (g : Over) (c : After-keep g) →
    LeavesFronts g.D.Disk c.args.disk.now c.keep.new.disk c.args.ledger.now (kept_text (verdict_of c.args.core.now c.in-Ok.event) (happening_of c.args.collected.now))
kept g c =
    subst (λ (v : Verdict). LeavesFronts g.D.Disk c.args.disk.now c.keep.new.disk c.args.ledger.now (kept_text v (happening_of c.args.collected.now)))
    c.in-Ok-verdict_in.ensures c.keep.ensures.leaves

pub returns-in-Err-keep-clause-stopped : goal.returns-in-Err-keep-clause-stopped
returns-in-Err-keep-clause-stopped g c = (c.in-Ok.event, c.in-Ok.ensures.event, kept g (goal.at.returns-in-Err-keep-clause-stopped g c).After-keep)

pub returns-in-Err-keep-clause-overflow : goal.returns-in-Err-keep-clause-overflow
returns-in-Err-keep-clause-overflow g c o is = absurd (c.in-Err-keep.ensures.never_passes o is)

pub returns-in-Err-keep-clause-past : goal.returns-in-Err-keep-clause-past
returns-in-Err-keep-clause-past g c need most is =
    let p = c.in-Err-keep.ensures.past need most is in (
      c.in-Ok.event,
      c.in-Ok.ensures.event,
      p.0,
      subst (λ (v : Verdict). kept_text v (happening_of c.args.collected.now) ≡ p.0 ∷ []) c.in-Ok-verdict_in.ensures p.1,
      p.2,
      p.3,
      p.4,
    )

pub returns-in-Err-on-clause-stopped : goal.returns-in-Err-on-clause-stopped
returns-in-Err-on-clause-stopped g c = (c.in-Ok.event, c.in-Ok.ensures.event, kept g (goal.at.returns-in-Err-on-clause-stopped g c).After-keep)

pub returns-in-Err-on-clause-cause : goal.returns-in-Err-on-clause-cause
returns-in-Err-on-clause-cause g c = record {
  later = c.keep.ensures.cause.later;
  failed = search rules;
  same = λ other. c.in_default-keep.ensures.cause.same (search rules);
}
