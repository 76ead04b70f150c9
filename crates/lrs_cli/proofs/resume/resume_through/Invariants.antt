use Rattle.lrs_cli.proofs.resume.resume_through.Given as goal

abbrev pub ghosts-resume_over : goal.ghosts-resume_over
ghosts-resume_over g a = record { base = g.O.Sink.written a.out }
