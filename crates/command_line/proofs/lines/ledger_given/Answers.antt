use Rattle.std.proofs.Common.{codes, ◌∙◌}
use Rattle.clap.specs.Words.{found_of}
use Rattle.clap.proofs.WalkLemmas.{first_value-rows}
use Rattle.command_line.proofs.FoundWords.{ledger_found, no_ledger_found}
use Rattle.command_line.proofs.lines.ledger_given.Goals as goal

pub returns-clause-some : goal.returns-clause-some
returns-clause-some c =
    ledger_found _ c.get_str.result (c.get_str.ensures ∙ first_value-rows (found_of c.args.given.now) (codes "LEDGER"))

pub returns-clause-none : goal.returns-clause-none
returns-clause-none c =
    no_ledger_found _ c.get_str.result (c.get_str.ensures ∙ first_value-rows (found_of c.args.given.now) (codes "LEDGER"))
