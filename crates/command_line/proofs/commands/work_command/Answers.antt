-- Option by option: each is one more rule of the command.
use Rattle.std.proofs.Common.{◌∙◌, ap₂}
use Rattle.std.proofs.lemmas.Result.{IfOk-weaker}
use Rattle.clap.specs.Words.{with_rule}
use Rattle.command_line.proofs.commands.work_command.Goals as goal

pub returns-clause-app : goal.returns-clause-app
returns-clause-app c =
    let ledger = c.in_ok-ledger.ensures.app in
    let workers = c.in_ok-workers.ensures.app ∙ ap₂ with_rule ledger c.option_word.ensures.rule in
    let bases = c.in_ok-bases.ensures.app ∙ ap₂ with_rule workers c.option_word-2.ensures.rule in
    let depth = c.in_ok-depth.ensures.app ∙ ap₂ with_rule bases c.option_word-3.ensures.rule in
    let lmin = c.in_ok-lmin.ensures.app ∙ ap₂ with_rule depth c.option_word-4.ensures.rule in
    IfOk-weaker c.with_word-5.result _ _ (λ r e. e ∙ ap₂ with_rule lmin c.option_word-5.ensures.rule) c.with_word-5.ensures.app
