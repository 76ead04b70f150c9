use Rattle.std.proofs.Common.{length}
use Rattle.poly_io.proofs.Parts.{Owes}
use Rattle.poly_io.proofs.write.write_all.Given as goal

abbrev pub invariant-loop-rest : goal.invariant-loop-rest
invariant-loop-rest g l = Owes g.S.Sink l.initial.out l.out l.bytes l.rest

abbrev pub decreases-loop-rest : goal.decreases-loop-rest
decreases-loop-rest g l = length l.rest
