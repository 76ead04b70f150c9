use Rattle.std.proofs.Common.{subst}
use Rattle.poly_model.specs.Keys.{IsAscending}
use Rattle.phase_one.specs.Beginning.{StopsBeginning}
use Rattle.phase_one.proofs.BeginLemmas.{has_room, can, stops, begun}
use Rattle.phase_one.proofs.StopLemmas.{same_overflow}
use Rattle.phase_one.proofs.begin.begin.Goals as goal

pub pivot-requires : goal.pivot-requires
pivot-requires g c =
    let (space, h) = c.requires.start in
    can space c.args.start h c.in-Ok.dict (c.in-Ok.ensures.adds (has_room space c.args.start h)) c.args.worst c.requires.worst

pub returns-in-Ok-pivot-clause-begun : goal.returns-in-Ok-pivot-clause-begun
returns-in-Ok-pivot-clause-begun g c space h =
    begun space c.args.start h c.in-Ok.dict (c.in-Ok.ensures.adds (has_room space c.args.start h)) c.args.worst
    c.requires.worst (subst IsAscending c.labels-all.ensures.value c.labels-all.ensures.ascending) c.pivot.new.self
    c.in-Ok-pivot.ensures.pivoted

pub returns-in-Err-clause-overflow : goal.returns-in-Err-clause-overflow
returns-in-Err-clause-overflow g c o e space h =
    subst (λ x. StopsBeginning space c.args.start.key c.args.worst x) (same_overflow c.in-Err.overflow o e)
    (stops space c.args.start h c.in-Ok.dict (c.in-Ok.ensures.adds (has_room space c.args.start h)) c.args.worst
    c.requires.worst c.in-Err.overflow c.in-Err.ensures.passes)
