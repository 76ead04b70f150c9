use Rattle.std.proofs.Common.{refl}
use Rattle.lrs_cli.proofs.DemoLemmas.{answers_done, answers_write_fault, answers_overflow, answers_memory}
use Rattle.lrs_cli.proofs.demo.print_totals.Goals as goal

pub returns-in-Err-Overflow-clause-answers : goal.returns-in-Err-Overflow-clause-answers
returns-in-Err-Overflow-clause-answers g c =
    answers_overflow c.args.poly.now _ _ _ _ _ refl refl c.in-Err-Overflow.overflow
    ((rw c.in-Err-Overflow.field-0-is at c.in-Err-Overflow.ensures.overflow) c.in-Err-Overflow.overflow refl)

pub returns-in-Err-Memory-clause-answers : goal.returns-in-Err-Memory-clause-answers
returns-in-Err-Memory-clause-answers g c = answers_memory c.args.poly.now _ _ _ _ _ refl refl

pub returns-in-Ok-write_totals-clause-answers : goal.returns-in-Ok-write_totals-clause-answers
returns-in-Ok-write_totals-clause-answers g c =
    answers_done c.args.poly.now _ _ _ _ _ c.in-Ok.totals c.in-Ok.ensures.totals
    c.in-Ok-write_totals.ensures.whole c.in-Ok-write_totals.ensures.cause.same

pub returns-in-Err-clause-answers : goal.returns-in-Err-clause-answers
returns-in-Err-clause-answers g c =
    answers_write_fault c.args.poly.now _ _ _ _ _ c.in-Ok.totals c.in-Ok.ensures.totals c.in-Err.ensures.part
    c.in-Err.ensures.cause.failed
