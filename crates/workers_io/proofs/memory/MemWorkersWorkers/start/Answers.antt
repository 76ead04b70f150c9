use Rattle.std.proofs.Common.{map, subst, sym}
use Rattle.std.proofs.lemmas.Result.{IfOk-weaker}
use Rattle.workers_io.specs.Memory.{HasMore}
use Rattle.workers_io.proofs.HonestLemmas.{start_stays}
use Rattle.workers_io.proofs.QueueLemmas.{fated_more}
use Rattle.workers_io.proofs.memory.MemWorkersWorkers.start.Goals as goal

pub start-begun-requires : goal.start-begun-requires
start-begun-requires g c =
    IfOk-weaker c.coming_of-coming.result _ _ (λ v made. subst (λ coming. HasMore coming c.args.attempt) (sym made.2) (fated_more c.next_fate.result (map (λ o. o.now) c.self.inside.others.now) c.args.attempt made.0)) c.coming_of-coming.ensures.coming

pub returns-clause-honest : goal.returns-clause-honest
returns-clause-honest g c =
    rw (sym c.self.view_is) (start_stays g.J.JobCall.allows c.start-begun.result c.coming_of-coming.result (λ v. v.items) (map (λ o. o.now) c.self.inside.others.now) c.args.attempt c.args.text.now _ _
    (rw (sym c.next_fate.ensures.first) c.coming_of-coming.ensures.coming) c.start-begun.ensures.begun c.start-begun.ensures.coming c.start-begun.ensures.spoiled c.start.ensures.ok c.start.ensures.err c.next_fate.ensures.rest)
