use Rattle.std.proofs.Common.{ap, ◌∙◌}
use Rattle.clap.specs.Words.{found_of}
use Rattle.std.specs.Prelude.{option_and_then}
use Rattle.clap.proofs.WalkLemmas.{first_value-rows}
use Rattle.command_line.specs.Lines.{number_within}
use Rattle.command_line.proofs.lines.number_given.Goals as goal

pub returns-in-Some-clause-number : goal.returns-in-Some-clause-number
returns-in-Some-clause-number c =
    c.number_said.ensures.number
    ∙ ap (option_and_then (number_within c.args.least c.args.most))
    (c.in-Some.ensures ∙ first_value-rows (found_of c.args.given.now) c.args.name.now)

pub returns-in-None-clause-number : goal.returns-in-None-clause-number
returns-in-None-clause-number c =
    ap (option_and_then (number_within c.args.least c.args.most))
    (c.in-None.ensures ∙ first_value-rows (found_of c.args.given.now) c.args.name.now)
