use Rattle.std.proofs.Common.{inl, refl, ap, Err}
use Rattle.job_text.specs.Rule.{search_of}
use Rattle.worker_job.proofs.DueLemmas.{due_by_subtrees, due_before}
use Rattle.worker_job.proofs.replying.by_subtrees.Goals as goal

pub reply_by-requires-clause-begins : goal.reply_by-requires-clause-begins
reply_by-requires-clause-begins g c =
    (c.in-Ok.ensures.work (search_of c.args.job.now) c.requires.work refl c.requires.cone).begins

pub reply_by-requires-clause-work : goal.reply_by-requires-clause-work
reply_by-requires-clause-work g c =
    c.in-Ok.ensures.work (search_of c.args.job.now) c.requires.work refl c.requires.cone

pub reply_by-requires-clause-asked : goal.reply_by-requires-clause-asked
reply_by-requires-clause-asked g c w o is due =
    due_by_subtrees c.args.job.now c.requires.work w o is due

pub pass-requires-clause-due : goal.pass-requires-clause-due
pass-requires-clause-due g c =
    let stop = c.in-Err-Overflow in
    let p = c.args.job.now.poly in
    due_before c.args.job.now c.requires.work stop.overflow
    (stop.ensures.overflow stop.overflow (ap Err stop.field-0-is) p c.requires.cone)

pub returns-in-Err-BadRoot-clause-ends : goal.returns-in-Err-BadRoot-clause-ends
returns-in-Err-BadRoot-clause-ends g c =
    let stop = c.in-Err-BadRoot in
    let s = search_of c.args.job.now in
    (inl (refl, stop.ensures.bad_root (ap Err stop.field-0-is) s c.requires.work refl c.requires.cone), refl)
