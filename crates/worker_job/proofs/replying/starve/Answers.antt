use Rattle.worker_job.proofs.ReplyTexts.{starves, starves_in_part}
use Rattle.worker_job.proofs.replying.starve.Goals as goal

pub returns-in-Ok-clause-ends : goal.returns-in-Ok-clause-ends
returns-in-Ok-clause-ends g c = starves _ c.requires.head _ _ c.in-Ok.ensures.whole

pub returns-in-Err-clause-ends : goal.returns-in-Err-clause-ends
returns-in-Err-clause-ends g c = starves_in_part _ c.requires.head _ _ c.in-Err.ensures.part
