use Rattle.job_text.proofs.FirstPayloadLemmas.{one_first_payload}
use Rattle.job_text.proofs.laws.one_first_payload.Goals as goal

pub returns : goal.returns
returns c payload s t h k = one_first_payload s t payload h k
