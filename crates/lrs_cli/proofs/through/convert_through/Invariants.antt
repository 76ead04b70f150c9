use Rattle.lrs_cli.proofs.through.convert_through.Given as goal

abbrev pub ghosts-convert_over : goal.ghosts-convert_over
ghosts-convert_over g a = record { base = g.O.Sink.written a.out }
