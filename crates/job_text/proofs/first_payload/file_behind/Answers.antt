use Rattle.std.proofs.Common.{refl, arith, length}
use Rattle.std.specs.Prelude.{decimal}
use Rattle.plain_text.proofs.Decimals.{decimal_of_decimal}
use Rattle.job_text.proofs.JobTextLemmas.{SaysSize, sized_is, said_of_sized}
use Rattle.job_text.proofs.first_payload.file_behind.Goals as goal

pub returns-in_err-size-clause-none : goal.returns-in_err-size-clause-none
returns-in_err-size-clause-none c none file small is =
    c.in_err-size.ensures.none refl (decimal (length file)) file (length file)
    (decimal_of_decimal (length file) (omega (arith, small))) is

pub returns-then-has_size-clause-some : goal.returns-then-has_size-clause-some
returns-then-has_size-clause-some c =
    let (digits, size, says, said, split) = c.in_ok-size.ensures.some in
    let s : SaysSize c.args.text.now c.in_ok-size.file.now c.in_ok-size.size =
    record { digits = digits; size = size; says = says; is_said = said; split = split } in
    sized_is c.args.text.now c.in_ok-size.file.now c.in_ok-size.size s c.has_size.ensures.small
    (c.has_size.ensures.yes c.if-has_size.true)

pub returns-else-has_size-clause-none : goal.returns-else-has_size-clause-none
returns-else-has_size-clause-none c none file small is =
    let (digits, size, says, said, split) = c.in_ok-size.ensures.some in
    let s : SaysSize c.args.text.now c.in_ok-size.file.now c.in_ok-size.size =
    record { digits = digits; size = size; says = says; is_said = said; split = split } in
    c.has_size.ensures.no c.if-has_size.false
    (said_of_sized c.args.text.now c.in_ok-size.file.now c.in_ok-size.size s file small is)
