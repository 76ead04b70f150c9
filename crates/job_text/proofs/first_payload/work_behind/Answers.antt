use Rattle.plain_text.proofs.ReadLemmas.{none_line_read, line_is, read_none}
use Rattle.job_text.specs.FirstPayloads.{ledger_line}
use Rattle.job_text.proofs.FirstPayloadLemmas.{ledger_lacks}
use Rattle.job_text.proofs.first_payload.work_behind.Goals as goal

pub returns-in_err-work : goal.returns-in_err-work
returns-in_err-work c =
    rw c.from_residual-in_err-work.ensures (none_line_read (λ work rest may is.
    read_none c.in_err-work.was c.read_ledger_line.ensures work tt
    (line_is (ledger_line work) rest c.in_ok-line.ensures (ledger_lacks work) is).0))
