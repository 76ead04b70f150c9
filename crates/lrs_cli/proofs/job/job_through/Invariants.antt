use Rattle.lrs_cli.proofs.job.job_through.Given as goal

abbrev pub ghosts-job_over : goal.ghosts-job_over
ghosts-job_over g a = record { base = g.O.Sink.written a.out }
