use Rattle.job_text.proofs.OneReplyLemmas.{one_reply}
use Rattle.job_text.proofs.laws.one_reply.Goals as goal

pub returns : goal.returns
returns c n text few a b u w = one_reply n a b text few u w
