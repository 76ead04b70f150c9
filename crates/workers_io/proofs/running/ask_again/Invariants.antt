use Rattle.std.proofs.Common.{◌≡◌, map}
use Rattle.workers_io.proofs.running.ask_again.Given as goal

abbrev pub invariant-loop : goal.invariant-loop
invariant-loop g l = map (λ r. r.attempt) l.running ≡ map (λ r. r.attempt) l.fn.running
