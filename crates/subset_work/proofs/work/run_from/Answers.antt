use Rattle.std.proofs.Common.{◌+◌, ap, ◌∙◌}
use Rattle.poly_model.specs.declared.listed.Count.{Count}
use Rattle.subset_work.specs.Made.{made_with}
use Rattle.subset_work.proofs.Runs.{ok_run, torn_run, cut_is}
use Rattle.subset_work.proofs.work.run_from.Goals as goal

pub returns-clause-whole : goal.returns-clause-whole
returns-clause-whole g c s made is =
    let start = c.args.start.now in
    let so_far = c.start_of-so_far.result in
    let none = c.start_of-so_far.ensures.count in
    ok_run (made_with start.sys.now start.dict.now start.free.now c.args.room.now.deeper.items) s made
    c.requires.room.room.narrow c.args.key.now is c.args.budget c.requires.budget so_far.most so_far.longest
    c.start_of-so_far.ensures.most
    (λ h. c.start_of-so_far.ensures.depth h ∙ ap (λ n. n + c.args.budget.depth) c.len.ensures.value)
    c.start_of-so_far.ensures.none (g.S.Sink.written c.args.out.now) (g.S.Sink.written c.visit_key.new.out) so_far.count
    (ap (λ (n : Count). n.rows) none) (ap (λ (n : Count). n.jobs) none) (ap (λ (n : Count). n.bases) none)
    c.visit_key.result (c.visit_key.ensures.walked s made is)

pub returns-clause-overflow : goal.returns-clause-overflow
returns-clause-overflow g c o e s made is =
    let r = (c.visit_key.ensures.walked s made is).cut o e in (
      r.0,
      cut_is s made.work made.root c.args.key.now (g.S.Sink.written c.args.out.now) (g.S.Sink.written c.visit_key.new.out) r.1,
    )

pub returns-clause-torn : goal.returns-clause-torn
returns-clause-torn g c s made is =
    let so_far = c.start_of-so_far.result in
    torn_run s made.work made.root c.args.key.now so_far.most so_far.longest (g.S.Sink.written c.args.out.now)
    (g.S.Sink.written c.visit_key.new.out) so_far.count c.visit_key.result (c.visit_key.ensures.walked s made is)
