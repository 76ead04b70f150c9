use Rattle.std.proofs.Common.{refl, sym}
use Rattle.workers_io.proofs.HonestLemmas.{collect_stays}
use Rattle.workers_io.proofs.memory.MemWorkersWorkers.collect.Goals as goal

pub returns-clause-honest : goal.returns-clause-honest
returns-clause-honest g c =
    rw (sym c.self.view_is) (collect_stays g.J.JobCall.allows _ _ c.collect-collected.result c.collect-collected.ensures.coming c.collect.ensures refl)
