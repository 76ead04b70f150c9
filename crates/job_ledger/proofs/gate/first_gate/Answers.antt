use Rattle.std.proofs.Common.{arith}
use Rattle.job_ledger.proofs.GateLemmas.{no_record}
use Rattle.job_ledger.proofs.gate.first_gate.Goals as goal

pub returns-clause-done : goal.returns-clause-done
returns-clause-done g c f told size none only = (f, told, no_record f none (omega (arith, size, c.if-size-eq0.false)), only)
