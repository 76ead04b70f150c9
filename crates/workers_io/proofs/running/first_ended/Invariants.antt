use Rattle.std.proofs.Common.{◌≡◌, map}
use Rattle.workers_io.proofs.running.first_ended.Given as goal

abbrev pub invariant-loop-i : goal.invariant-loop-i
invariant-loop-i g l = map (λ r. r.attempt) l.running ≡ map (λ r. r.attempt) l.fn.running
