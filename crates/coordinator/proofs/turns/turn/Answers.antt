use Rattle.std.proofs.Common.{rules, ◌≡◌, ◌∙◌, List, ℕ, [], inl, inr, false, refl, Err, sym, ap, subst}
use Rattle.workers_io.specs.Collects.{happening_of, out_after}
use Rattle.coordinator_core.specs.Machine.{State, after, attempt_of, verdict_of}
use Rattle.coordinator_core.specs.Places.{IsSound}
use Rattle.coordinator_core.specs.Traces.{hands, stepped}
use Rattle.coordinator_core.proofs.SoundLemmas.{sound_by_counts}
use Rattle.coordinator_laws.specs.Courses.{kept_text}
use Rattle.coordinator.specs.declared.stops.TurnStop.TheVariants.{LedgerLimit, Overflow}
use Rattle.coordinator.specs.Following.{AreOut}
use Rattle.coordinator.specs.Leaving.{IsRefusedBy}
use Rattle.coordinator.proofs.AttemptsOut.{out-collected, out-started, some-out}
use Rattle.coordinator.proofs.CallLemmas.{ends-collected, goes-collect, goes-collected, goes-refused, goes-same, goes-start, goes-still, head-text, lower-collect, lower-start, same-attempt}
use Rattle.coordinator.proofs.MoreRecords.{adds_none, adds_still, falls, leaves_same, leaves_still, refused_one}
use Rattle.coordinator.proofs.turns.turn.Goals as goal

-- ---- a start
pub returns-in-Ok-clause-out : goal.returns-in-Ok-clause-out
returns-in-Ok-clause-out g c =
    out-started c.args.core.now c.next-action.new.self c.start_job.new.core c.in-Hand.attempt c.in-Hand.key c.in-Hand.budget _ _ _
    (sym c.in-Hand.ensures.action) c.in-Hand.ensures.state c.in-Ok.ensures.started c.requires

pub returns-in-Ok-clause-went : goal.returns-in-Ok-clause-went
returns-in-Ok-clause-went g c = (
  [],
  goes-start c.args.core.now c.next-action.new.self c.start_job.new.core c.in-Hand.attempt c.in-Hand.key c.in-Hand.budget _ _ _ _ _
      (sym c.in-Hand.ensures.action) c.in-Hand.ensures.state
      (head-text c.args.core.now c.next-action.new.self c.job_head-head.result c.in-Hand.key c.in-Hand.budget c.in-Hand.ensures.state c.job_head-head.ensures)
      c.in-Ok.ensures.started,
  adds_none g.D.Disk c.args.disk.now c.args.ledger.now g.met.D.Disk.only_now,
)

pub returns-in-Ok-clause-falls : goal.returns-in-Ok-clause-falls
returns-in-Ok-clause-falls g c move =
    let adds = adds_none g.D.Disk c.args.disk.now c.args.ledger.now g.met.D.Disk.only_now in
    falls c.args.core.now c.start_job.new.core c.args.ledger.now c.args.ledger.now [] adds.knows (inl refl)
    (lower-start c.args.core.now c.next-action.new.self c.start_job.new.core c.in-Hand.attempt c.in-Hand.key c.in-Hand.budget _ _ _ _ _ c.is_sound.ensures.in_range
    (sym c.in-Hand.ensures.action) c.in-Hand.ensures.state c.in-Ok.ensures.started)

pub returns-in-Hand-clause-stopped : goal.returns-in-Hand-clause-stopped
returns-in-Hand-clause-stopped g c = record {
  somewhere = (
    [],
    elim c.in-Err.ensures.stopped [
      | inl none ↦ inl (c.args.core.now, goes-still c.args.core.now _ _ none)
      | inr told ↦ inl (
        stepped c.args.core.now (hands c.in-Hand.attempt c.in-Hand.key c.in-Hand.budget false),
        goes-refused c.args.core.now c.in-Hand.attempt c.in-Hand.key c.in-Hand.budget _ _ _ (sym c.in-Hand.ensures.action)
            (head-text c.args.core.now c.next-action.new.self c.job_head-head.result c.in-Hand.key c.in-Hand.budget c.in-Hand.ensures.state c.job_head-head.ensures) told,
      )
    ],
    leaves_same g.D.Disk c.args.disk.now c.args.ledger.now [] g.met.D.Disk.only_now,
  );
  overflow = search rules;
  past = search rules;
}

-- ---- a collect
pub collect-requires : goal.collect-requires
collect-requires g c = some-out c.args.core.now (g.W.Workers.out c.args.workers.now) c.requires (sym c.in-Collect.ensures.action)

pub returns-in-Ok-take-clause-out : goal.returns-in-Ok-take-clause-out
returns-in-Ok-take-clause-out g c =
    let mid = c.next-action.new.self in
    let p = c.in-Ok-take.ensures.taken in
    let same : mid ≡ c.args.core.now = c.in-Collect.ensures.state in
    let out = g.W.Workers.out c.args.workers.now in
    let sound = sound_by_counts mid (subst (λ (z : State). IsSound z.run z.queue z.sent) (sym same) c.is_sound.ensures.sound) in
    let all = out-collected mid p.0 out sound p.2 (subst (λ (z : State). AreOut z out) (sym same) c.requires) in
    let left : out_after out (attempt_of p.0) ≡ g.W.Workers.out c.collect.new.self =
    ap (out_after out) (same-attempt mid p.0 c.in-Ok-collect.collected p.1) ∙ sym c.in-Ok-collect.ensures.out in
    subst (λ (z : State). AreOut z (g.W.Workers.out c.collect.new.self)) (sym p.3) (subst (AreOut (after mid p.0)) left all)

pub returns-in-Ok-take-clause-went : goal.returns-in-Ok-take-clause-went
returns-in-Ok-take-clause-went g c =
    let mid = c.next-action.new.self in
    let p = c.in-Ok-take.ensures.taken in
    let h = happening_of c.in-Ok-collect.collected in (
      kept_text (verdict_of mid p.0) h,
      goes-collect c.args.core.now mid c.in-Collect.ensures.state c.in-Collect.ensures.action p.0 h p.1 c.take.new.core _ _ p.2 p.3 c.in-Ok-collect.ensures.told,
      p.4,
    )

pub returns-in-Ok-take-clause-falls : goal.returns-in-Ok-take-clause-falls
returns-in-Ok-take-clause-falls g c move =
    let mid = c.next-action.new.self in
    let p = c.in-Ok-take.ensures.taken in
    let h = happening_of c.in-Ok-collect.collected in
    falls c.args.core.now c.take.new.core c.args.ledger.now c.take.new.ledger (kept_text (verdict_of mid p.0) h) p.4.knows c.in-Ok-take.ensures.fits
    (lower-collect c.args.core.now mid c.in-Collect.ensures.state c.in-Collect.ensures.action p.0 h p.1 c.take.new.core c.is_sound.ensures.in_range p.2 p.3)

pub returns-in-Ok-collect-clause-stopped : goal.returns-in-Ok-collect-clause-stopped
returns-in-Ok-collect-clause-stopped g c =
    let s = c.args.core.now in
    let mid = c.next-action.new.self in
    let same : mid ≡ s = c.in-Collect.ensures.state in
    let act = c.in-Collect.ensures.action in
    let h = happening_of c.in-Ok-collect.collected in
    let told = c.in-Ok-collect.ensures.told in
    record {
      somewhere = let p = c.in-Err-take.ensures.stopped in (kept_text (verdict_of mid p.0) h, goes-collected s mid same act p.0 h p.1 _ _ told, p.2);
      overflow = λ o is.
          let stop : c.in-Err-take.stop ≡ Overflow o = cc in
          let p = c.in-Err-take.ensures.overflow o (ap Err stop) in
          ([], ends-collected s mid same act p.0 h p.1 o _ _ told p.2, adds_still g.D.Disk c.args.disk.now c.take.new.disk c.args.ledger.now c.take.new.ledger p.3 p.4 g.met.D.Disk.only_now);
      past = λ need most is.
          let stop : c.in-Err-take.stop ≡ LedgerLimit need most = cc in
          let p = c.in-Err-take.ensures.past need most (ap Err stop) in (
            kept_text (verdict_of mid p.0) h,
            goes-collected s mid same act p.0 h p.1 _ _ told,
            leaves_still g.D.Disk c.args.disk.now c.take.new.disk c.args.ledger.now _ p.5 g.met.D.Disk.only_now,
            subst (λ (texts : List (List ℕ)). IsRefusedBy c.args.ledger.now texts need most) (sym p.3) (refused_one c.args.ledger.now p.2 need most p.4),
          );
    }

pub returns-in-Ok-collect-clause-past : goal.returns-in-Ok-collect-clause-past
returns-in-Ok-collect-clause-past g c need most is =
    let stop : c.in-Err-take.stop ≡ LedgerLimit need most = cc in
    (c.in-Err-take.ensures.past need most (ap Err stop)).5

pub returns-in-Collect-clause-stopped : goal.returns-in-Collect-clause-stopped
returns-in-Collect-clause-stopped g c = record {
  somewhere = (
    [],
    inl (c.args.core.now, goes-still c.args.core.now _ _ c.in-Err-collect.ensures.told_nothing),
    leaves_same g.D.Disk c.args.disk.now c.args.ledger.now [] g.met.D.Disk.only_now,
  );
  overflow = search rules;
  past = search rules;
}

-- ---- nothing
pub returns-in-Finish-clause-went : goal.returns-in-Finish-clause-went
returns-in-Finish-clause-went g c =
    ([], goes-same c.args.core.now _ _ c.in-Finish.ensures.state, adds_none g.D.Disk c.args.disk.now c.args.ledger.now g.met.D.Disk.only_now)

pub returns-clause-went : goal.returns-clause-went
returns-clause-went g c =
    ([], goes-same c.args.core.now _ _ c.in-GiveUp.ensures.state, adds_none g.D.Disk c.args.disk.now c.args.ledger.now g.met.D.Disk.only_now)
