use Rattle.lrs_cli.proofs.run.run_through.Given as goal

abbrev pub ghosts-run_over : goal.ghosts-run_over
ghosts-run_over g a = record { base = g.O.Sink.written a.out }
