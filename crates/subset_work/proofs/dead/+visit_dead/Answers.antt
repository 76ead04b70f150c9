use Rattle.std.proofs.Common.{arith, ◌+◌, ◌-◌, ◌≤◌, refl, sym, ap, subst, length, length-take, take, ◌∙◌, ℕ}
use Rattle.poly_model.specs.declared.listed.Count.{Count}
use Rattle.subset_work.specs.declared.trail.Trail.{Trail}
use Rattle.subset_work.specs.Counts.{HasCome}
use Rattle.subset_work.proofs.Sums.{visited_is_one, come_first, come_past, come_on}
use Rattle.subset_work.proofs.Trails.{kept_on, child_is}
use Rattle.subset_work.proofs.Visits.{begin_at, passed, ended, given_back, step_here, walked_at, dead_child_walks, dead_alone, dead_none, linear_here, rows_here}
use Rattle.subset_work.proofs.dead.+visit_dead.Goals.{then-not-is_linear+in-Some, else-not-is_linear}
use Rattle.subset_work.proofs.dead.+visit_dead.Goals as goal

pub returns-then-stops-clause-walked : goal.returns-then-stops-clause-walked
returns-then-stops-clause-walked g t c p file room next dead =
    let list = c.args.list.now in
    given_back p (take list.len c.args.trail.now.labels) c.args.so_far.now (g.S.Sink.written c.args.out.now)
    (g.S.Sink.written c.give_list.new.out) _ room.is_key list.len c.give_list.ensures.len
    (c.if-stops.ensures.back refl) c.give_list.ensures.given c.give_list.ensures.overflow

pub returns-then-left-eq0-clause-walked : goal.returns-then-left-eq0-clause-walked
returns-then-left-eq0-clause-walked g t c p file room next dead =
    dead_alone p (take c.args.list.now.len c.args.trail.now.labels) c.args.left room (omega (arith, c.if-left-eq0.true)) dead
    c.args.so_far.now.most c.args.so_far.now.longest (g.S.Sink.written c.args.out.now) c.args.so_far.now.count
    c.one_base-count.result (c.if-stops.ensures.on refl).0
    (let near = (c.if-stops.ensures.on refl).1 in
    omega (arith, length-take {A = ℕ}, near, c.requires.room))
    (visited_is_one c.args.so_far.now.count c.one_base-count.result c.one_base-count.ensures.rows
    c.one_base-count.ensures.jobs c.one_base-count.ensures.bases)

pub rows-init : goal.rows-init
rows-init g t c =
    let list = c.args.list.now in
    let so_far = c.args.so_far.now in
    let key = take list.len c.args.trail.now.labels in
    let base = visited_is_one so_far.count c.one_base-count.result c.one_base-count.ensures.rows
    c.one_base-count.ensures.jobs c.one_base-count.ensures.bases in
    record {
      come = come_first so_far.most list.from so_far.count c.one_base-count.result (c.if-stops.ensures.on refl).0 base;
      same = refl {a = g.S.Sink.faults c.args.out.now};
      kept = refl {a = key};
      walked = λ p file room next dead.
          begin_at p key c.args.left list.from room next so_far.most so_far.longest
          (g.S.Sink.written c.args.out.now) so_far.count c.one_base-count.result base;
    }

pub returns-in-None-clause-walked : goal.returns-in-None-clause-walked
returns-in-None-clause-walked g t c p file room next dead =
    let list = c.args.list.now in
    let so_far = c.args.so_far.now in
    let labels = c.args.trail.now.labels in
    let key = take list.len labels in
    let step = step_here p list.sys.now file key c.args.left list.from room next so_far.most so_far.longest c.rows.i
    (g.S.Sink.written c.args.out.now) (g.S.Sink.written c.rows.out) so_far.count c.rows.count
    (c.rows.invariant.walked p file room next dead) (omega (arith, length-take {A = ℕ}, c.requires.room))
    (omega (arith, c.if-left-eq0.false))
    c.rows.invariant.come.far (omega (arith, c.rows-test.true, c.rows-i-end.ensures.value)) c.is_linear.result
    c.is_linear.ensures c.if-not-is_linear.true in
    let child = child_is list.len c.rows.i c.row.result labels c.rows.trail.labels c.put.new.self.labels
    c.rows.invariant.kept c.put.ensures.value c.row.ensures in
    step.breaks (g.S.Sink.written c.visit_dead.new.out) c.visit_dead.new.trail.stop
    (dead_child_walks p key (take (list.len + 1) c.put.new.self.labels) c.rows.i (c.args.left - 1) so_far.most so_far.longest
    (g.S.Sink.written c.rows.out) (g.S.Sink.written c.visit_dead.new.out) c.rows.count _ child step.may dead
    (c.in-None.ensures.walked p file))

pub rows-preserved : goal.rows-preserved
rows-preserved g t c =
    let list = c.args.list.now in
    let so_far = c.args.so_far.now in
    let labels = c.args.trail.now.labels in
    let key = take list.len labels in
    let old = g.S.Sink.written c.args.out.now in
    let row : c.rows.i ≤ length list.sys.now.rows = omega (arith, c.rows-test.true, c.rows-i-end.ensures.value) in
    let few : c.rows.i + 1 ≤ list.from + 4609 = omega (arith, row, c.rows-i-end.ensures.value, c.rows-i-end.ensures.few) in
    let come = c.rows.invariant.come in
    elim c.if-not-is_linear.branch [
      | then-not-is_linear+in-Some w ↦ record {
        come = subst (λ (n : Count). HasCome so_far.most list.from (c.rows.i + 1) so_far.count n) (sym w.count-is)
            (come_on so_far.most list.from c.rows.i so_far.count c.rows.count come w.in-Some.on w.in-Some.ensures.on few);
        same = ap g.S.Sink.faults w.out-is ∙ w.in-Some.ensures.cause.same (λ e. cc) ∙ c.rows.invariant.same;
        kept = ap (λ (x : Trail). take list.len x.labels) w.trail-is
            ∙ kept_on list.len labels c.rows.trail.labels w.put.new.self.labels w.visit_dead.new.trail.labels
            c.rows.invariant.kept w.put.ensures.kept w.in-Some.ensures.kept;
        walked = λ p file room next dead.
            let step = step_here p list.sys.now file key c.args.left list.from room next so_far.most
            so_far.longest c.rows.i old (g.S.Sink.written c.rows.out) so_far.count c.rows.count
            (c.rows.invariant.walked p file room next dead) (omega (arith, length-take {A = ℕ}, c.requires.room))
            (omega (arith, c.if-left-eq0.false)) come.far
            row c.is_linear.result c.is_linear.ensures w.if-not-is_linear.true in
            let child = child_is list.len c.rows.i w.row.result labels c.rows.trail.labels w.put.new.self.labels
            c.rows.invariant.kept w.put.ensures.value w.row.ensures in
            walked_at g.S.Sink.written p key (c.rows.i + 1) so_far.most so_far.longest old so_far.count
            w.out-is w.count-is
            (step.goes_on (g.S.Sink.written w.visit_dead.new.out) w.in-Some.on
            (dead_child_walks p key (take (list.len + 1) w.put.new.self.labels) c.rows.i (c.args.left - 1) so_far.most
            so_far.longest (g.S.Sink.written c.rows.out) (g.S.Sink.written w.visit_dead.new.out) c.rows.count _ child
            step.may dead (w.in-Some.ensures.walked p file)));
      }
      | else-not-is_linear w ↦ record {
        come = subst (λ (n : Count). HasCome so_far.most list.from (c.rows.i + 1) so_far.count n) (sym w.count-is)
            (come_past so_far.most list.from c.rows.i so_far.count c.rows.count come few);
        same = ap g.S.Sink.faults w.out-is ∙ c.rows.invariant.same;
        kept = ap (λ (x : Trail). take list.len x.labels) w.trail-is ∙ c.rows.invariant.kept;
        walked = λ p file room next dead.
            walked_at g.S.Sink.written p key (c.rows.i + 1) so_far.most so_far.longest old so_far.count
            w.out-is w.count-is
            (passed p key c.args.left list.from room next so_far.most so_far.longest c.rows.i old
            (g.S.Sink.written c.rows.out) so_far.count c.rows.count (c.rows.invariant.walked p file room next dead)
            (linear_here p list.sys.now c.rows.i c.is_linear.result file c.is_linear.ensures w.if-not-is_linear.false));
      }
    ]

pub returns-clause-walked : goal.returns-clause-walked
returns-clause-walked g t c p file room next dead =
    let list = c.args.list.now in
    let so_far = c.args.so_far.now in
    let key = take list.len c.args.trail.now.labels in
    let (few, near) = c.if-stops.ensures.on refl in
    ended p key so_far.most so_far.longest (g.S.Sink.written c.args.out.now) so_far.count few
    (omega (arith, length-take {A = ℕ}, near, c.requires.room)) (g.S.Sink.written c.rows.out) c.rows.i c.rows.count
    (dead_none p key c.args.left room dead)
    (omega (arith, c.rows-test.false, c.rows-i-end.ensures.value, rows_here p list.sys.now file))
    (c.rows.invariant.walked p file room next dead)
