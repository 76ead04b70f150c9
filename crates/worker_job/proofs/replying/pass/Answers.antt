use Rattle.worker_job.proofs.ReplyTexts.{passes_alone, passes_in_part}
use Rattle.worker_job.proofs.replying.pass.Goals as goal

pub returns-in-Ok-clause-ends : goal.returns-in-Ok-clause-ends
returns-in-Ok-clause-ends g c =
    passes_alone _ c.requires.file c.args.overflow c.write_alone.ensures.key c.requires.due _ _ c.in-Ok.ensures.prints.whole

pub returns-in-Err-clause-ends : goal.returns-in-Err-clause-ends
returns-in-Err-clause-ends g c =
    passes_in_part _ c.requires.file c.args.overflow c.write_alone.ensures.key c.requires.due _ _ c.in-Err.ensures.prints.part
