use Rattle.std.proofs.Common.{◌≡◌, ◌-◌, ◌≤◌, [], length, take, refl, sym, ap, subst, ◌∙◌}
use Rattle.poly_model.specs.Limits.{most_labels}
use Rattle.poly_model.specs.Systems.{System}
use Rattle.plain_enum.proofs.BeginAt.{left_has}
use Rattle.subset_work.specs.Counts.{MayVisit}
use Rattle.subset_work.specs.Standing.{HasRoom, IsNext, IsLive, IsDead}
use Rattle.subset_work.proofs.Descents.{room_none, dead_none, live_from, room_from, next_nil}
use Rattle.subset_work.proofs.Runs.{key_in, walks_from, counts_from}
use Rattle.subset_work.proofs.work.visit_key.Goals as goal

pub returns-in-None-clause-walked : goal.returns-in-None-clause-walked
returns-in-None-clause-walked g c s made is =
    let start = c.args.start.now in
    let key = c.args.key.now in
    let p = s.polyhedron in
    let slim : p.n ≤ most_labels = subst (λ (t : System). t.n ≤ most_labels) made.file c.requires.room.room.narrow in
    let q = key_in s made.work made.root key is in
    let none = c.in-None.ensures.none refl in
    let at : take c.len.result c.of-trail.result.labels ≡ key =
    ap (λ n. take n c.of-trail.result.labels) c.len.ensures.value ∙ c.of-trail.ensures in
    walks_from p key _ c.args.so_far.now.most c.args.so_far.now.longest (g.S.Sink.written c.args.out.now)
    (g.S.Sink.written c.visit_dead.new.out) c.args.so_far.now.count c.visit_dead.result c.visit_dead.new.trail.stop _ at
    c.ok_or.ensures.value
    (c.visit_dead.ensures.walked p made.file
    (subst (λ ks. HasRoom p ks 0) (sym at) (room_none p start.dict.now made.last start.free.now made.begun none slim key q))
    (subst (λ ks. IsNext ks c.after_last.result) (c.labels-labels.ensures.value ∙ sym at) c.after_last.ensures.next)
    (subst (IsDead p) (sym at) (dead_none p start.dict.now made.last start.free.now made.begun none slim key q)))

pub returns-in-None-clause-on : goal.returns-in-None-clause-on
returns-in-None-clause-on g c =
    counts_from c.args.so_far.now.most c.args.so_far.now.count c.visit_dead.result c.visit_dead.new.trail.stop _
    c.ok_or.ensures.value
    (c.visit_dead.ensures.visits
    (subst (λ n. MayVisit c.args.so_far.now n) (sym c.len.ensures.value) c.requires.may))

pub returns-in-Some-clause-walked : goal.returns-in-Some-clause-walked
returns-in-Some-clause-walked g c s made is =
    let start = c.args.start.now in
    let key = c.args.key.now in
    let p = s.polyhedron in
    let slim : p.n ≤ most_labels = subst (λ (t : System). t.n ≤ most_labels) made.file c.requires.room.room.narrow in
    let q = key_in s made.work made.root key is in
    let labels = c.labels-labels.ensures.value in
    let col = c.in-Some.ensures.some in
    let deep = ap length c.deref_mut.ensures.value in
    let depth = length c.deref_mut.result.now in
    let live = live_from p start.dict.now made.last start.free.now made.begun start.sys.now made.file c.in-Some.field-0
    (left_has p start.dict.now made.last start.free.now made.begun c.in-Some.field-0 col.inside col.coordinate col.not_free)
    depth (deep ∙ made.depth) in
    let room = room_from p start.dict.now made.last start.free.now made.begun slim depth (deep ∙ made.depth) key q in
    let at : take c.len.result c.of-trail.result.labels ≡ key =
    ap (λ n. take n c.of-trail.result.labels) c.len.ensures.value ∙ c.of-trail.ensures in
    let begins : take c.len.result c.of-trail.result.labels ≡ c.labels-labels.result.now = at ∙ sym labels in
    walks_from p key _ c.args.so_far.now.most c.args.so_far.now.longest (g.S.Sink.written c.args.out.now)
    (g.S.Sink.written c.visit_under.new.out) c.args.so_far.now.count c.visit_under.result c.visit_under.new.trail.stop _ at
    c.ok_or-in-Some.ensures.value
    (c.visit_under.ensures.walked p []
    (subst (λ j. IsLive start.sys.now start.free.now start.dict.now j depth p []) (sym c.requires.first) live)
    (subst (IsNext []) (sym c.requires.first) next_nil) begins
    (subst (λ ks. HasRoom p ks (depth - length c.labels-labels.result.now)) (sym at)
    (subst (λ ks. HasRoom p key (depth - length ks)) (sym labels) room))
    (subst (λ ks. IsNext ks c.after_last.result) (sym begins) c.after_last.ensures.next))

pub returns-in-Some-clause-on : goal.returns-in-Some-clause-on
returns-in-Some-clause-on g c =
    counts_from c.args.so_far.now.most c.args.so_far.now.count c.visit_under.result c.visit_under.new.trail.stop _
    c.ok_or-in-Some.ensures.value
    (c.visit_under.ensures.visits
    (subst (λ n. MayVisit c.args.so_far.now n) (sym c.len.ensures.value) c.requires.may))
