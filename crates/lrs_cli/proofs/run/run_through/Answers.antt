use Rattle.lrs_cli.proofs.RunHeadline.{answers_run}
use Rattle.lrs_cli.proofs.run.run_through.Goals as goal

pub returns-clause-answers : goal.returns-clause-answers
returns-clause-answers g c =
    answers_run g.D.Disk g.W.Workers g.met.W.Workers.honest_history g.met.D.Disk.only_now c.args.call.now.terms.options c.requires.terms.options
    c.args.call.now.terms.limit _ _ _ _ _ _ c.run_over.ensures.runs
