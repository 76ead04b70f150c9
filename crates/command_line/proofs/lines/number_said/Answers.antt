use Rattle.std.proofs.Common.{arith}
use Rattle.command_line.proofs.NumberTexts.{read_in, not_read}
use Rattle.command_line.proofs.lines.number_said.Goals as goal

pub returns-in-Ok-clause-number : goal.returns-in-Ok-clause-number
returns-in-Ok-clause-number c =
    read_in c.args.least c.args.most c.args.word.now c.in-Ok.n c.in-Ok.ensures.value.0.0 c.in-Ok.ensures.value.0.1
    c.if_within.result c.if_within.ensures.some c.if_within.ensures.none

pub returns-in-Err-clause-number : goal.returns-in-Err-clause-number
returns-in-Err-clause-number c =
    not_read c.args.least c.args.most c.args.word.now c.in-Err.ensures.value.0 (omega (arith, c.ranges.most.fits))
