use Rattle.std.proofs.Common.{refl}
use Rattle.lrs_cli.proofs.LineLemmas.{taken_of_file}
use Rattle.lrs_cli.proofs.top.answer_line.Goals as goal

pub returns-in-Convert-clause-taken : goal.returns-in-Convert-clause-taken
returns-in-Convert-clause-taken g c = taken_of_file _ _ c.convert_through.ensures.taken

pub returns-in-Convert-clause-answers : goal.returns-in-Convert-clause-answers
returns-in-Convert-clause-answers g c = rw c.in-Convert.is (refl, c.convert_through.ensures.taken, c.convert_through.ensures.answers)

pub returns-in-Job-clause-answers : goal.returns-in-Job-clause-answers
returns-in-Job-clause-answers g c = rw c.in-Job.is (refl, c.job_through.ensures.taken, c.job_through.ensures.answers)

pub returns-in-Demo-clause-answers : goal.returns-in-Demo-clause-answers
returns-in-Demo-clause-answers g c = rw c.in-Demo.is (refl, refl, c.demo.ensures.answers)

pub returns-in-Run-clause-taken : goal.returns-in-Run-clause-taken
returns-in-Run-clause-taken g c = taken_of_file _ _ c.run_through.ensures.taken

pub returns-in-Run-clause-answers : goal.returns-in-Run-clause-answers
returns-in-Run-clause-answers g c =
    let e = c.call_of.ensures in
    let a = rw (e.options, e.limit) at c.run_through.ensures.answers in
    rw c.in-Run.is (c.run_through.ensures.taken, a)

pub returns-in-Resume-clause-answers : goal.returns-in-Resume-clause-answers
returns-in-Resume-clause-answers g c =
    let e = c.call_of-call.ensures in
    let a = rw (e.options, e.limit) at c.resume_through.ensures in
    rw c.in-Resume.is (refl, a)

pub returns-in-Status-clause-answers : goal.returns-in-Status-clause-answers
returns-in-Status-clause-answers g c = rw c.in-Status.is (refl, refl, c.progress.ensures)
