use Rattle.std.proofs.Common.{inr, ap, Err}
use Rattle.job_text.specs.Rule.{search_of}
use Rattle.worker_job.proofs.ReplyTexts.{head_in_part, run_in_part, ends_with, ends_in_part, stops_with, stops_in_part}
use Rattle.worker_job.proofs.replying.run.Goals as goal

pub returns-in-Err-clause-ends : goal.returns-in-Err-clause-ends
returns-in-Err-clause-ends g c = head_in_part _ c.requires.file c.requires.begins _ _ c.in-Err.ensures.part

pub run-requires-clause-key : goal.run-requires-clause-key
run-requires-clause-key g c = c.requires.key

pub returns-in-Ok-write_end-clause-ends : goal.returns-in-Ok-write_end-clause-ends
returns-in-Ok-write_end-clause-ends g c =
    let s = search_of c.args.job.now in
    ends_with _ c.requires.file c.requires.begins _ _ _ c.in-Ok.count c.in_default.ensures.whole
    (c.in-Ok.ensures.whole s c.requires.work) _ (c.requires.key s c.requires.work) c.in-Ok-write_end.ensures.whole

pub returns-in-Err-write_end-clause-ends : goal.returns-in-Err-write_end-clause-ends
returns-in-Err-write_end-clause-ends g c =
    ends_in_part _ c.requires.file c.requires.begins _ _ _ c.in-Ok.count c.in_default.ensures.whole
    (c.in-Ok.ensures.whole (search_of c.args.job.now) c.requires.work) _ c.in-Err-write_end.ensures.part

pub returns-in-Ok-write_passed-clause-ends : goal.returns-in-Ok-write_passed-clause-ends
returns-in-Ok-write_passed-clause-ends g c =
    let o = c.in-Err-Overflow.overflow in
    let stop = c.in-Err-Overflow.ensures.overflow o (ap Err c.in-Err-Overflow.field-0-is) (search_of c.args.job.now) c.requires.work in
    stops_with _ c.requires.file c.requires.begins _ _ _ o c.write_passed.ensures.key
    (c.requires.asked _ o c.requires.work (record { passes = stop.0.passes; asked = inr stop.0.asked }))
    c.in_default.ensures.whole stop.1 _ c.in-Ok-write_passed.ensures.prints.whole

pub returns-in-Err-write_passed-clause-ends : goal.returns-in-Err-write_passed-clause-ends
returns-in-Err-write_passed-clause-ends g c =
    let o = c.in-Err-Overflow.overflow in
    let stop = c.in-Err-Overflow.ensures.overflow o (ap Err c.in-Err-Overflow.field-0-is) (search_of c.args.job.now) c.requires.work in
    stops_in_part _ c.requires.file c.requires.begins _ _ _ o c.write_passed.ensures.key
    (c.requires.asked _ o c.requires.work (record { passes = stop.0.passes; asked = inr stop.0.asked }))
    c.in_default.ensures.whole stop.1 _ c.in-Err-write_passed.ensures.prints.part

pub returns-in-Err-WriteFault-clause-ends : goal.returns-in-Err-WriteFault-clause-ends
returns-in-Err-WriteFault-clause-ends g c =
    run_in_part _ c.requires.file c.requires.begins _ _ _ c.in_default.ensures.whole
    (c.in-Err-WriteFault.ensures.torn (search_of c.args.job.now) c.requires.work)
