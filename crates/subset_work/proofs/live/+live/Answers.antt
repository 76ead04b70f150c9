use Rattle.std.proofs.Common.{rules, Err, arith, ◌≡◌, ◌+◌, ◌-◌, ◌≤◌, ◌<◌, [], ◌∷◌, ◌++◌, List, append-nil, ap, sym, refl, subst, length, length-take, take, ◌∙◌, ℕ}
use Rattle.std.specs.List.{All}
use Rattle.poly_model.specs.declared.listed.Count.{Count}
use Rattle.dictionary.specs.Views.{Dictionary}
use Rattle.plain_enum.specs.Listed.{HasRoomFor, HasShapeOf}
use Rattle.plain_enum.proofs.LoopUnder.{shape_first, room_with, room_below}
use Rattle.plain_enum.proofs.NextRow as next_row
use Rattle.work_core.specs.declared.stops.WorkStop.{WorkStop}
use Rattle.work_core.specs.Searches.{by_subsets}
use Rattle.work_core.proofs.WalkedLemmas.{no_lines}
use Rattle.subset_work.specs.declared.trail.Trail.{Trail}
use Rattle.subset_work.specs.Counts.{HasCome}
use Rattle.subset_work.specs.Standing.{HasRoom, IsLive, IsNext}
use Rattle.subset_work.specs.Walked.{WalksUnder}
use Rattle.subset_work.proofs.Trails.{kept_on, child_at, child_is}
use Rattle.subset_work.proofs.ListPrefixes.{none_shown, live_deeper}
use Rattle.subset_work.proofs.Sums.{visited_is_one, may_visit, may_come, come_first, come_past, come_on}
use Rattle.subset_work.proofs.Visits.{room_is, begin_at, passed, ended, step_here, walked_at, walks_past, walks_to_child, given_back, linear_here, rows_here}
use Rattle.subset_work.proofs.Descents.{room_at, next_is_one, label_within, live_at_label, next_below, begins_below, dead_below, too_long, nothing}
use Rattle.subset_work.proofs.live.+live.Goals.{visit_live-then-not-is_linear+in-Some, visit_live-else-not-is_linear}
use Rattle.subset_work.proofs.live.+live.Goals as goal

-- ---- at a list where the walk stops
pub visit_under-returns-then-stops-clause-walked : goal.visit_under-returns-then-stops-clause-walked
visit_under-returns-then-stops-clause-walked g t c p front live next eq room nextk =
    let len = c.args.way.now.list.len in
    given_back p (take len c.args.trail.now.labels) c.args.way.now.so_far.now (g.S.Sink.written c.args.out.now)
    (g.S.Sink.written c.give_list.new.out) _ room.is_key len c.give_list.ensures.len
    (c.if-stops.ensures.back refl) c.give_list.ensures.given c.give_list.ensures.overflow

-- ---- at the key
pub visit_under-returns-in_default-clause-walked : goal.visit_under-returns-in_default-clause-walked
visit_under-returns-in_default-clause-walked g t c p front live next eq room nextk =
    let prefix = c.args.way.now.prefix in
    let list = c.args.way.now.list in
    let key = take list.len c.args.trail.now.labels in
    let same : key ≡ front =
    eq ∙ ap (λ r. front ++ r) (nothing c.args.way.now.rest.now c.in_default.ensures.cases) ∙ append-nil front in
    let there = subst (λ ks. IsNext ks prefix.from) (sym same) next in
    let now = subst (λ j. IsLive prefix.sys.now prefix.free.now prefix.dict.now j (length c.args.deeper.now) p key)
    (next_is_one key prefix.from list.from there nextk)
    (subst (λ ks. IsLive prefix.sys.now prefix.free.now prefix.dict.now prefix.from (length c.args.deeper.now) p ks)
    (sym same) live) in
    c.visit_live.ensures.walked p now
    (subst (λ n. HasRoom p key n)
    (room_at prefix.sys.now prefix.free.now prefix.dict.now list.from (length c.args.deeper.now)
    (length c.args.deeper.now - length c.args.way.now.rest.now) p key now room) room)
    nextk

pub visit_under-visit_live-requires : goal.visit_under-visit_live-requires
visit_under-visit_live-requires g t c κs within =
    let none = c.in_default.ensures.cases in
    let may = may_visit c.args.way.now.so_far.now c.args.way.now.list.len c.requires.may (c.if-stops.ensures.on refl) in (
      omega (arith, c.decreases, none),
      (within, (c.requires.room, (omega (arith, c.requires.deep, none), (c.requires.from, may)))),
    )

-- ---- one label down
pub visit_under-returns-in_default-column_for-clause-walked : goal.visit_under-returns-in_default-column_for-clause-walked
visit_under-returns-in_default-column_for-clause-walked g t c p front live next eq room nextk =
    let prefix = c.args.way.now.prefix in
    let key = take c.args.way.now.list.len c.args.trail.now.labels in
    let label = c.in-Some.label.now in
    let later = c.in-Some.later.now in
    let depth = length c.args.deeper.now in
    let begins : key ≡ front ++ label ∷ later = eq ∙ ap (λ r. front ++ r) c.in-Some.ensures.cases.0 in
    let (low, high) = label_within prefix.sys.now prefix.free.now prefix.dict.now prefix.from depth p front live next key label
    later begins room.is_key in
    c.visit_dead.ensures.walked p (c.requires.sys ∙ live.at.file)
    (subst (λ n. HasRoom p key n) (sym c.left_of-left.ensures.value) room) nextk
    (dead_below prefix.sys.now prefix.free.now prefix.dict.now prefix.from depth p front live next key label later begins
    room.is_key (c.in_default-column_for.ensures.none refl low high))

pub visit_under-returns-in_default-split_first_mut-clause-walked : goal.visit_under-returns-in_default-split_first_mut-clause-walked
visit_under-returns-in_default-split_first_mut-clause-walked g t c p front live next eq room nextk =
    let prefix = c.args.way.now.prefix in
    let begins = eq ∙ ap (λ r. front ++ r) c.in-Some.ensures.cases.0 in
    absurd (too_long prefix.sys.now prefix.free.now prefix.dict.now prefix.from (length c.args.deeper.now) p front live next
    (take c.args.way.now.list.len c.args.trail.now.labels) c.in-Some.label.now c.in-Some.later.now begins room.is_key
    (let z = c.in_default-split_first_mut.ensures.cases in omega arith))

pub visit_under-take_noted-requires-clause-shape : goal.visit_under-take_noted-requires-clause-shape
visit_under-take_noted-requires-clause-shape g t c =
    shape_first c.args.way.now.prefix.dict.now c.in-Some-split_first_mut.next.now c.in-Some-split_first_mut.others.now
    (subst (All (HasShapeOf c.args.way.now.prefix.dict.now)) c.in-Some-split_first_mut.ensures.cases.0 c.requires.room.shapes)

pub visit_under-returns-then-not-take_noted-clause-walked : goal.visit_under-returns-then-not-take_noted-clause-walked
visit_under-returns-then-not-take_noted-clause-walked g t c p front live next eq room nextk =
    let prefix = c.args.way.now.prefix in
    let so_far = c.args.way.now.so_far.now in
    let key = take c.args.way.now.list.len c.args.trail.now.labels in
    let label = c.in-Some.label.now in
    let old = g.S.Sink.written c.args.out.now in
    let begins : key ≡ front ++ label ∷ c.in-Some.later.now = eq ∙ ap (λ r. front ++ r) c.in-Some.ensures.cases.0 in
    let here = live_at_label prefix.sys.now prefix.free.now prefix.dict.now prefix.from (length c.args.deeper.now) p front
    live next key label c.in-Some.later.now begins room.is_key in
    let (overflow, why, is) = c.take_noted.ensures.passes c.if-not-take_noted.true in
    subst (λ (x : WorkStop). WalksUnder p key so_far.most so_far.longest old old so_far.count (Err x)) (sym why)
    (walks_past p key so_far.most so_far.longest old old so_far.count overflow
    (next_row.overflows prefix.sys.now prefix.free.now prefix.dict.now label (length c.args.deeper.now) p
    here.cone here.fixed here.left here.marks here.at c.in-Some-column_for.col overflow
    c.in-Some-column_for.ensures.pivots is)
    (no_lines (by_subsets p) key old))

pub visit_under-returns-then-not-take_noted-clause-room : goal.visit_under-returns-then-not-take_noted-clause-room
visit_under-returns-then-not-take_noted-clause-room g t c =
    let prefix = c.args.way.now.prefix in
    room_with prefix.sys.now prefix.dict.now c.in-Some-split_first_mut.next.now c.take_noted.new.next
    c.in-Some-split_first_mut.others.now _
    (subst (λ (ds : List Dictionary). HasRoomFor prefix.sys.now prefix.dict.now ds c.args.vector.now)
    c.in-Some-split_first_mut.ensures.cases.0 c.requires.room) c.take_noted.ensures.shape

pub visit_under-visit_under-requires : goal.visit_under-visit_under-requires
visit_under-visit_under-requires g t c κs within =
    let prefix = c.args.way.now.prefix in
    let split = c.in-Some-split_first_mut.ensures.cases in
    let z = ap length c.in-Some.ensures.cases.0 in (
      omega (arith, c.decreases, z, split.1),
      (
        within,
        (
          room_below prefix.sys.now prefix.dict.now c.in-Some-split_first_mut.next.now c.take_noted.new.next
              c.in-Some-split_first_mut.others.now _ c.in-Some.label.now c.in-Some-column_for.col
              (subst (λ (ds : List Dictionary). HasRoomFor prefix.sys.now prefix.dict.now ds c.args.vector.now) split.0
              c.requires.room) c.take_noted.ensures.shape (c.take_noted.ensures.pivoted c.if-not-take_noted.false),
          (
            c.requires.fits,
            (omega (arith, c.requires.deep, z, split.1), (c.requires.from, (c.requires.may, c.requires.sys))),
          ),
        ),
      ),
    )

pub visit_under-returns-clause-walked : goal.visit_under-returns-clause-walked
visit_under-returns-clause-walked g t c p front live next eq room nextk =
    let prefix = c.args.way.now.prefix in
    let key = take c.args.way.now.list.len c.args.trail.now.labels in
    let label = c.in-Some.label.now in
    let later = c.in-Some.later.now in
    let depth = length c.args.deeper.now in
    let others = length c.in-Some-split_first_mut.others.now in
    let begins : key ≡ front ++ label ∷ later = eq ∙ ap (λ r. front ++ r) c.in-Some.ensures.cases.0 in
    let here = live_at_label prefix.sys.now prefix.free.now prefix.dict.now prefix.from depth p front live next key label
    later begins room.is_key in
    let (low, high) = label_within prefix.sys.now prefix.free.now prefix.dict.now prefix.from depth p front live next key label
    later begins room.is_key in
    let at : label ≡ c.from.result = sym (c.from.ensures ∙ c.number.ensures) in
    let less : depth - length c.args.way.now.rest.now ≡ others - length later =
    (let z = ap length c.in-Some.ensures.cases.0 in omega (arith, z, c.in-Some-split_first_mut.ensures.cases.1)) in
    c.visit_under.ensures.walked p (front ++ label ∷ [])
    (subst (λ j. IsLive prefix.sys.now prefix.free.now c.take_noted.new.next (j + 1) others p (front ++ label ∷ [])) at
    (live_deeper prefix.sys.now prefix.free.now prefix.dict.now label depth p front here high c.in-Some-column_for.col
    c.in-Some-column_for.ensures.some c.take_noted.new.next (c.take_noted.ensures.pivoted c.if-not-take_noted.false) others
    (omega (arith, c.in-Some-split_first_mut.ensures.cases.1))))
    (subst (λ j. IsNext (front ++ label ∷ []) (j + 1)) at
    (next_below prefix.sys.now prefix.free.now prefix.dict.now prefix.from depth p front live next key label later begins
    room.is_key))
    (begins_below prefix.sys.now prefix.free.now prefix.dict.now prefix.from depth p front live next key label later begins
    room.is_key)
    (subst (λ n. HasRoom p key n) less room) nextk

-- ---- the list, and those under it
pub visit_live-returns-then-is_empty-clause-walked : goal.visit_live-returns-then-is_empty-clause-walked
visit_live-returns-then-is_empty-clause-walked g t c p live room next =
    let prefix = c.args.live.now.prefix in
    let key = take c.args.live.now.len c.args.trail.now.labels in
    let none : length c.args.deeper.now ≡ 0 = search rules in
    c.show_left.ensures.walked p key c.args.live.now.so_far.now.most c.args.live.now.so_far.now.longest
    (subst (λ n. IsLive prefix.sys.now prefix.free.now prefix.dict.now prefix.from n p key) none live)
    (subst (λ n. HasRoom p key n) none room) c.requires.may.some
    (omega (arith, length-take {A = ℕ}, c.requires.may.near, c.requires.few))

pub visit_live-rows-init : goal.visit_live-rows-init
visit_live-rows-init g t c =
    let prefix = c.args.live.now.prefix in
    let key = take c.args.live.now.len c.args.trail.now.labels in
    let so_far = c.args.live.now.so_far.now in
    let base = visited_is_one so_far.count c.one_base-count.result c.one_base-count.ensures.rows
    c.one_base-count.ensures.jobs c.one_base-count.ensures.bases in
    record {
      room = c.requires.room;
      depth = refl {a = length c.args.deeper.now};
      come = come_first so_far.most prefix.from so_far.count c.one_base-count.result c.requires.may.some base;
      same = refl {a = g.S.Sink.faults c.args.out.now};
      kept = refl {a = key};
      walked = λ p live room next.
          begin_at p key (length c.args.deeper.now) prefix.from room next so_far.most so_far.longest
          (g.S.Sink.written c.args.out.now) so_far.count c.one_base-count.result base;
    }

pub visit_live-visit_under-requires : goal.visit_live-visit_under-requires
visit_live-visit_under-requires g t c κs within =
    let depth = c.rows.invariant.depth in
    let more : 0 < length c.args.deeper.now = search rules in
    let may = may_come c.args.live.now.so_far.now c.args.live.now.len (c.args.live.now.len + 1)
    c.args.live.now.prefix.from c.rows.i c.rows.count c.requires.may c.rows.invariant.come (omega arith) in (
      omega (arith, c.decreases, depth, more),
      (
        within,
        (
          c.rows.invariant.room,
          (omega (arith, c.requires.few, more), (omega (arith, depth, c.requires.few, more), (omega arith, (may, refl)))),
        ),
      ),
    )

pub visit_live-returns-in-None-clause-walked : goal.visit_live-returns-in-None-clause-walked
visit_live-returns-in-None-clause-walked g t c p live room next =
    let prefix = c.args.live.now.prefix in
    let len = c.args.live.now.len in
    let labels = c.args.trail.now.labels in
    let key = take len labels in
    let so_far = c.args.live.now.so_far.now in
    let depth = length c.args.deeper.now in
    let more : 0 < depth = search rules in
    let step = step_here p prefix.sys.now live.at.file key depth prefix.from room next so_far.most so_far.longest c.rows.i
    (g.S.Sink.written c.args.out.now) (g.S.Sink.written c.rows.out) so_far.count c.rows.count
    (c.rows.invariant.walked p live room next) (omega (arith, length-take {A = ℕ}, c.requires.few)) more
    c.rows.invariant.come.far
    (omega (arith, c.rows-test.true, c.rows-i-end.ensures.value)) c.is_linear.result c.is_linear.ensures
    c.if-not-is_linear.true in
    let child = child_is len c.rows.i c.row-row.result labels c.rows.trail.labels c.put.new.self.labels
    c.rows.invariant.kept c.put.ensures.value c.row-row.ensures in
    step.breaks (g.S.Sink.written c.visit_under.new.out) c.visit_under.new.trail.stop
    (walks_to_child p key (take (len + 1) c.put.new.self.labels) c.rows.i (depth - 1) so_far.most so_far.longest
    (g.S.Sink.written c.rows.out) (g.S.Sink.written c.visit_under.new.out) c.rows.count _ child step.may
    (λ there after. c.in-None.ensures.walked p key
    (subst (λ n. IsLive prefix.sys.now prefix.free.now prefix.dict.now prefix.from n p key) (sym c.rows.invariant.depth) live)
    next (child_at len c.row-row.result labels c.rows.trail.labels c.put.new.self.labels c.rows.invariant.kept c.put.ensures.value)
    (subst (λ n. HasRoom p (take (len + 1) c.put.new.self.labels) (n - 1)) (sym c.rows.invariant.depth) there) after))

pub visit_live-rows-preserved : goal.visit_live-rows-preserved
visit_live-rows-preserved g t c =
    let prefix = c.args.live.now.prefix in
    let len = c.args.live.now.len in
    let labels = c.args.trail.now.labels in
    let key = take len labels in
    let so_far = c.args.live.now.so_far.now in
    let depth = length c.args.deeper.now in
    let old = g.S.Sink.written c.args.out.now in
    let come = c.rows.invariant.come in
    let row : c.rows.i ≤ length prefix.sys.now.rows = omega (arith, c.rows-test.true, c.rows-i-end.ensures.value) in
    let few : c.rows.i + 1 ≤ prefix.from + 4609 =
    omega (arith, c.rows-test.true, c.rows-i-end.ensures.value, c.rows-i-end.ensures.few) in
    elim c.if-not-is_linear.branch [
      | visit_live-then-not-is_linear+in-Some w ↦ record {
        room = room_is prefix.sys.now prefix.dict.now w.deeper-is w.vector-is w.in-Some.ensures.room;
        depth = ap length w.deeper-is ∙ w.in-Some.ensures.depth ∙ c.rows.invariant.depth;
        come = subst (λ (n : Count). HasCome so_far.most prefix.from (c.rows.i + 1) so_far.count n) (sym w.count-is)
            (come_on so_far.most prefix.from c.rows.i so_far.count c.rows.count come w.in-Some.on w.in-Some.ensures.on few);
        same = ap g.S.Sink.faults w.out-is ∙ w.in-Some.ensures.cause.same (λ e. cc) ∙ c.rows.invariant.same;
        kept = ap (λ (x : Trail). take len x.labels) w.trail-is
            ∙ kept_on len labels c.rows.trail.labels w.put.new.self.labels w.visit_under.new.trail.labels
            c.rows.invariant.kept w.put.ensures.kept w.in-Some.ensures.kept;
        walked = λ p live room next.
            let more : 0 < depth = search rules in
            let step = step_here p prefix.sys.now live.at.file key depth prefix.from room next so_far.most so_far.longest
            c.rows.i old (g.S.Sink.written c.rows.out) so_far.count c.rows.count
            (c.rows.invariant.walked p live room next) (omega (arith, length-take {A = ℕ}, c.requires.few)) more come.far row
            c.is_linear.result c.is_linear.ensures w.if-not-is_linear.true in
            let child = child_is len c.rows.i w.row-row.result labels c.rows.trail.labels w.put.new.self.labels
            c.rows.invariant.kept w.put.ensures.value w.row-row.ensures in
            walked_at g.S.Sink.written p key (c.rows.i + 1) so_far.most so_far.longest old so_far.count
            w.out-is w.count-is
            (step.goes_on (g.S.Sink.written w.visit_under.new.out) w.in-Some.on
            (walks_to_child p key (take (len + 1) w.put.new.self.labels) c.rows.i (depth - 1) so_far.most so_far.longest
            (g.S.Sink.written c.rows.out) (g.S.Sink.written w.visit_under.new.out) c.rows.count _ child step.may
            (λ there after. w.in-Some.ensures.walked p key
            (subst (λ n. IsLive prefix.sys.now prefix.free.now prefix.dict.now prefix.from n p key)
            (sym c.rows.invariant.depth) live)
            next
            (child_at len w.row-row.result labels c.rows.trail.labels w.put.new.self.labels c.rows.invariant.kept
            w.put.ensures.value)
            (subst (λ n. HasRoom p (take (len + 1) w.put.new.self.labels) (n - 1)) (sym c.rows.invariant.depth) there) after)));
      }
      | visit_live-else-not-is_linear w ↦ record {
        room = room_is prefix.sys.now prefix.dict.now w.deeper-is w.vector-is c.rows.invariant.room;
        depth = ap length w.deeper-is ∙ c.rows.invariant.depth;
        come = subst (λ (n : Count). HasCome so_far.most prefix.from (c.rows.i + 1) so_far.count n) (sym w.count-is)
            (come_past so_far.most prefix.from c.rows.i so_far.count c.rows.count come few);
        same = ap g.S.Sink.faults w.out-is ∙ c.rows.invariant.same;
        kept = ap (λ (x : Trail). take len x.labels) w.trail-is ∙ c.rows.invariant.kept;
        walked = λ p live room next.
            walked_at g.S.Sink.written p key (c.rows.i + 1) so_far.most so_far.longest old so_far.count
            w.out-is w.count-is
            (passed p key depth prefix.from room next so_far.most so_far.longest c.rows.i old
            (g.S.Sink.written c.rows.out) so_far.count c.rows.count (c.rows.invariant.walked p live room next)
            (linear_here p prefix.sys.now c.rows.i c.is_linear.result live.at.file c.is_linear.ensures
            w.if-not-is_linear.false));
      }
    ]

pub visit_live-returns-clause-walked : goal.visit_live-returns-clause-walked
visit_live-returns-clause-walked g t c p live room next =
    let prefix = c.args.live.now.prefix in
    let so_far = c.args.live.now.so_far.now in
    let key = take c.args.live.now.len c.args.trail.now.labels in
    let more : 0 < length c.args.deeper.now = search rules in
    ended p key so_far.most so_far.longest (g.S.Sink.written c.args.out.now) so_far.count c.requires.may.some
    (omega (arith, length-take {A = ℕ}, c.requires.may.near, c.requires.few)) (g.S.Sink.written c.rows.out) c.rows.i
    c.rows.count (none_shown p key (length c.args.deeper.now) room more)
    (omega (arith, c.rows-test.false, c.rows-i-end.ensures.value, rows_here p prefix.sys.now live.at.file))
    (c.rows.invariant.walked p live room next)
