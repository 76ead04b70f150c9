use Rattle.std.proofs.Common.{refl, inl, inr}
use Rattle.job_text.proofs.JobLineLemmas.{no_size}
use Rattle.job_text.proofs.JobTextLemmas.{bad_at, bad_size_line, says_size, bad_input, other_size, whole_job}
use Rattle.job_text.proofs.reading.read_job.Goals as goal

pub returns-in-None-clause-bad : goal.returns-in-None-clause-bad
returns-in-None-clause-bad c place e =
    let h = c.in-Ok.ensures.ok in
    let none = no_size c.in-Ok.found.1.now (c.in-None.ensures.none refl) in
    bad_at c.args.text.now 6 place (inl (bad_size_line c.args.text.now c.in-Ok.found.1.now c.in-Ok.found.0 h.0 h.1 none)) e

pub returns-then-not-has_size-clause-bad : goal.returns-then-not-has_size-clause-bad
returns-then-not-has_size-clause-bad c place e =
    let h = c.in-Ok.ensures.ok in
    let s = says_size c.in-Some.ensures.some in
    let file = c.in-Some.found.1.now in
    bad_at c.args.text.now 7 place
    (inr (
      refl,
      bad_input c.args.text.now c.in-Ok.found.1.now file c.in-Some.found.0 c.in-Ok.found.0 h.0 h.1 s
          (inl (other_size c.in-Ok.found.1.now file c.in-Some.found.0 s c.has_size.ensures.small
          (c.has_size.ensures.no c.if-not-has_size.true))),
    )) e

pub returns-in-Ok-poly_of-clause-ok : goal.returns-in-Ok-poly_of-clause-ok
returns-in-Ok-poly_of-clause-ok c =
    let h = c.in-Ok.ensures.ok in
    whole_job c.args.text.now c.in-Ok.found.1.now c.in-Some.found.1.now c.in-Some.found.0 c.in-Ok.found.0
    c.in-Ok-poly_of.poly h.0 h.1 (says_size c.in-Some.ensures.some) c.has_size.ensures.small
    (c.has_size.ensures.yes c.if-not-has_size.false) c.in-Ok-poly_of.ensures.text c.in-Ok-poly_of.ensures.own_text

pub returns-in-Err-Bad-clause-bad : goal.returns-in-Err-Bad-clause-bad
returns-in-Err-Bad-clause-bad c place e =
    let h = c.in-Ok.ensures.ok in
    bad_at c.args.text.now 7 place
    (inr (
      refl,
      bad_input c.args.text.now c.in-Ok.found.1.now c.in-Some.found.1.now c.in-Some.found.0 c.in-Ok.found.0 h.0 h.1
          (says_size c.in-Some.ensures.some)
          (inr (c.in-Err-Bad.field-0-0, rw c.in-Err-Bad.field-0-is at c.in-Err-Bad.ensures.reads)),
    )) e
