use Rattle.std.proofs.Common.{◌≡◌, ◌∙◌, ℕ, [], ◌++◌, inl, inr, refl, Err, sym, ap, subst}
use Rattle.poly_model.specs.Systems.{Polyhedron, cone_of}
use Rattle.poly_model.specs.FreeColumns.{AreLines}
use Rattle.work_core.specs.Searches.{Search}
use Rattle.coordinator_core.proofs.KeptLemmas.{on_err}
use Rattle.coordinator.specs.declared.stops.TurnStop.TheVariants.{LedgerLimit, Overflow}
use Rattle.coordinator.specs.Ending.{PrintsWith}
use Rattle.coordinator.specs.Following.{last_action}
use Rattle.coordinator.proofs.CallEnds.{goes-search, if_ok, leaves_end, limits_are, prints_join, rests_after, rests_join}
use Rattle.coordinator.proofs.going.go_on.Goals as goal

-- ---- what is searched stays
pub print-requires-clause-lines : goal.print-requires-clause-lines
print-requires-clause-lines g c =
    let w = c.in-Ok-Whole.ensures.went in
    let same = ap (λ (s : Search). s.polyhedron) (goes-search c.args.going.now.core c.follow.new.core _ _ w.0 w.1) in
    subst (λ (p : Polyhedron). AreLines (cone_of p) c.args.going.now.lines) (sym same) c.requires.lines

pub returns-in-Ok-Whole-clause-goes : goal.returns-in-Ok-Whole-clause-goes
returns-in-Ok-Whole-clause-goes g c =
    let w = c.in-Ok-Whole.ensures.went in (
      w.0,
      inl (c.follow.new.core, w.1),
      leaves_end g.D.Disk c.args.disk.now c.follow.new.disk c.print.new.disk c.args.going.now.ledger c.follow.new.ledger w.0 w.2 c.print.ensures.leaves,
    )

pub returns-in-Ok-Whole-clause-done : goal.returns-in-Ok-Whole-clause-done
returns-in-Ok-Whole-clause-done g c =
    let w = c.in-Ok-Whole.ensures.went in
    let same = ap (λ (s : Search). s.polyhedron) (goes-search c.args.going.now.core c.follow.new.core _ _ w.0 w.1) in
    if_ok c.print.result (
      w.0,
      record { last = c.follow.new.core; goes = w.1; finish = c.in-Ok-Whole.ensures.ended ∙ ap last_action c.in-Ok-Whole.field-0-is },
      rests_join g.D.Disk c.args.disk.now c.follow.new.disk c.print.new.disk c.args.going.now.ledger c.follow.new.ledger w.0 w.2 c.print.ensures.rests,
      prints_join g.D.Disk c.args.disk.now c.follow.new.disk c.args.going.now.ledger c.follow.new.ledger w.0 c.args.going.now.core.run.search.polyhedron _ _ c.print.result w.2
          (subst (λ (p : Polyhedron). PrintsWith g.D.Disk c.follow.new.disk c.follow.new.ledger [] p (g.O.Sink.written c.args.out.now) (g.O.Sink.written c.print.new.out) c.print.result) same c.print.ensures.prints),
    )

pub returns-in-Ok-Whole-clause-part : goal.returns-in-Ok-Whole-clause-part
returns-in-Ok-Whole-clause-part g c =
    let w = c.in-Ok-Whole.ensures.went in
    let same = ap (λ (s : Search). s.polyhedron) (goes-search c.args.going.now.core c.follow.new.core _ _ w.0 w.1) in
    on_err c.print.result (inr (
      w.0,
      record { last = c.follow.new.core; goes = w.1; finish = c.in-Ok-Whole.ensures.ended ∙ ap last_action c.in-Ok-Whole.field-0-is },
      rests_join g.D.Disk c.args.disk.now c.follow.new.disk c.print.new.disk c.args.going.now.ledger c.follow.new.ledger w.0 w.2 c.print.ensures.rests,
      prints_join g.D.Disk c.args.disk.now c.follow.new.disk c.args.going.now.ledger c.follow.new.ledger w.0 c.args.going.now.core.run.search.polyhedron _ _ c.print.result w.2
          (subst (λ (p : Polyhedron). PrintsWith g.D.Disk c.follow.new.disk c.follow.new.ledger [] p (g.O.Sink.written c.args.out.now) (g.O.Sink.written c.print.new.out) c.print.result) same c.print.ensures.prints),
    ))

pub returns-in-Ok-Whole-clause-bad : goal.returns-in-Ok-Whole-clause-bad
returns-in-Ok-Whole-clause-bad g c place is =
    let w = c.in-Ok-Whole.ensures.went in
    let same = ap (λ (s : Search). s.polyhedron) (goes-search c.args.going.now.core c.follow.new.core _ _ w.0 w.1) in (
      w.0,
      record { last = c.follow.new.core; goes = w.1; finish = c.in-Ok-Whole.ensures.ended ∙ ap last_action c.in-Ok-Whole.field-0-is },
      λ records s replies at text polyhedron. c.print.ensures.bad place is (records ++ w.0) s replies (w.2.kept records at) text (polyhedron ∙ sym same),
    )

-- ---- the stops of the work
pub returns-in-Err-LedgerLimit-clause-past : goal.returns-in-Err-LedgerLimit-clause-past
returns-in-Err-LedgerLimit-clause-past g c need most is =
    let given = limits_are _ _ need most is in
    let n : c.in-Err-LedgerLimit.need ≡ need = rw c.in-Err-LedgerLimit.field-0-is at given.0 in
    let m : c.in-Err-LedgerLimit.limit ≡ most = rw c.in-Err-LedgerLimit.field-0-is at given.1 in
    let stop : c.in-Err-LedgerLimit.field-0 ≡ LedgerLimit need most = c.in-Err-LedgerLimit.field-0-is ∙ ap (λ (x : ℕ). LedgerLimit x c.in-Err-LedgerLimit.limit) n ∙ ap (LedgerLimit need) m in
    let p = c.in-Err-LedgerLimit.ensures.stopped.past need most (ap Err stop) in
    (refl, p.0, p.1, p.2, p.3)

pub returns-in-Err-Overflow-clause-overflow : goal.returns-in-Err-Overflow-clause-overflow
returns-in-Err-Overflow-clause-overflow g c o is =
    let q : c.in-Err-Overflow.overflow ≡ o = cc in
    let stop : c.in-Err-Overflow.field-0 ≡ Overflow o = c.in-Err-Overflow.field-0-is ∙ ap Overflow q in
    let p = c.in-Err-Overflow.ensures.stopped.overflow o (ap Err stop) in
    (refl, p.0, p.1, rests_after g.D.Disk c.args.disk.now c.follow.new.disk c.args.going.now.ledger c.follow.new.ledger p.0 p.2)
