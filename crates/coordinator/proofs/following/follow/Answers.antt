use Rattle.std.proofs.Common.{rules, ◌≡◌, ◌∙◌, ◌++◌, [], refl, Err, ap, subst}
use Rattle.coordinator_core.specs.Machine.{next_action}
use Rattle.coordinator.specs.declared.stops.TurnStop.TheVariants.{LedgerLimit, Overflow}
use Rattle.coordinator.specs.Following.{IsMove}
use Rattle.coordinator.proofs.CallLemmas.{ends_join, goes_join, goes_none, somewhere_join}
use Rattle.coordinator.proofs.MoreRecords.{adds_join, adds_none, leaves_join, refused_join}
use Rattle.coordinator.proofs.following.follow.Goals as goal

pub turns-init : goal.turns-init
turns-init g c = (
  c.requires,
  ([], goes_none c.args.core.now _, adds_none g.D.Disk c.args.disk.now c.args.ledger.now g.met.D.Disk.only_now),
  λ f. (refl, refl),
  refl,
  λ h. h,
)

pub turns-preserved : goal.turns-preserved
turns-preserved g c =
    let i = c.turns.invariant in
    let p = c.in-Ok.ensures.went in
    let move : IsMove (next_action c.turns.core) = subst IsMove c.in-Ok.ensures.action (c.in_default.ensures.none refl) in (
      c.in-Ok.ensures.out,
      (
        i.1.0 ++ p.0,
        goes_join c.args.core.now c.turns.core c.turn.new.core _ _ _ i.1.0 p.0 i.1.1 p.1.leads,
        adds_join g.D.Disk c.args.disk.now c.turns.disk c.turn.new.disk c.args.ledger.now c.turns.ledger c.turn.new.ledger i.1.0 p.0 i.1.2 p.2,
      ),
      λ f. absurd (subst IsMove (ap next_action (i.2 f).0 ∙ f) move),
      c.in-Ok.ensures.cause.same (search rules) ∙ i.3,
      λ h. c.turn.ensures.honest (i.4 h),
    )

pub returns-in-Err-clause-idle : goal.returns-in-Err-clause-idle
returns-in-Err-clause-idle g c f =
    absurd (subst IsMove (ap next_action (c.turns.invariant.2 f).0 ∙ f) c.in-Err.ensures.tries)

pub returns-in-Err-clause-stopped : goal.returns-in-Err-clause-stopped
returns-in-Err-clause-stopped g c =
    let texts = c.turns.invariant.1.0 in
    let leads = c.turns.invariant.1.1 in
    let adds = c.turns.invariant.1.2 in
    record {
      somewhere = let p = c.in-Err.ensures.stopped.somewhere in (
        texts ++ p.0,
        somewhere_join c.args.core.now c.turns.core _ _ _ texts p.0 leads p.1,
        leaves_join g.D.Disk c.args.disk.now c.turns.disk c.turn.new.disk c.args.ledger.now c.turns.ledger texts p.0 adds p.2,
      );
      overflow = λ o is.
          let stop : c.in-Err.stop ≡ Overflow o = cc in
          let p = c.in-Err.ensures.stopped.overflow o (ap Err stop) in (
            texts ++ p.0,
            ends_join c.args.core.now c.turns.core o _ _ _ texts p.0 leads p.1,
            adds_join g.D.Disk c.args.disk.now c.turns.disk c.turn.new.disk c.args.ledger.now c.turns.ledger c.turn.new.ledger texts p.0 adds p.2,
          );
      past = λ need most is.
          let stop : c.in-Err.stop ≡ LedgerLimit need most = cc in
          let p = c.in-Err.ensures.stopped.past need most (ap Err stop) in (
            texts ++ p.0,
            somewhere_join c.args.core.now c.turns.core _ _ _ texts p.0 leads p.1,
            leaves_join g.D.Disk c.args.disk.now c.turns.disk c.turn.new.disk c.args.ledger.now c.turns.ledger texts p.0 adds p.2,
            refused_join c.args.ledger.now c.turns.ledger texts p.0 need most adds.knows p.3,
          );
    }
