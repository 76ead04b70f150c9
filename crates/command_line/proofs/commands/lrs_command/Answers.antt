-- Command by command: each is one more of the program.
use Rattle.std.proofs.Common.{◌≡◌, ◌∙◌, ap₂}
use Rattle.std.proofs.lemmas.Result.{IfOk-weaker}
use Rattle.clap.specs.Words.{App, with_subcommand}
use Rattle.command_line.proofs.commands.lrs_command.Goals as goal

-- the program above and the command below are known
with_both : (above known : App) (below given : App) → above ≡ known → below ≡ given →
    with_subcommand above below.top ≡ with_subcommand known given.top
with_both above known below given a b = ap₂ (λ (x : App) (y : App). with_subcommand x y.top) a b

pub returns : goal.returns
returns c =
    let converts = c.in_ok-converts.ensures.app ∙ with_both _ _ _ _ c.base_command.ensures.app c.plain_command.ensures.app in
    let jobs = c.in_ok-jobs.ensures.app ∙ with_both _ _ _ _ converts c.plain_command-2.ensures.app in
    let demos = c.in_ok-demos.ensures.app ∙ with_both _ _ _ _ jobs c.in_ok-demo_command.ensures.app in
    let runs = c.in_ok-runs.ensures.app ∙ with_both _ _ _ _ demos c.in_ok-work_command.ensures.app in
    let resumes = c.in_ok-resumes.ensures.app ∙ with_both _ _ _ _ runs c.in_ok-work_command-2.ensures.app in
    IfOk-weaker c.with_command-6.result _ _ (λ r e. e ∙ with_both _ _ _ _ resumes c.in_ok-ledger_command.ensures.app)
    c.with_command-6.ensures.app
