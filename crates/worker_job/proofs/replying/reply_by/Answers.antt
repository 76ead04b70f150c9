use Rattle.std.proofs.Common.{inl}
use Rattle.job_text.specs.Rule.{search_of}
use Rattle.worker_job.proofs.replying.reply_by.Goals as goal

pub pass-requires-clause-due : goal.pass-requires-clause-due
pass-requires-clause-due g c =
    let due = c.in-Err.ensures.overflow (search_of c.args.job.now) c.requires.work in
    c.requires.asked _ c.in-Err.overflow c.requires.work (record { passes = due.passes; asked = inl due.asked })
