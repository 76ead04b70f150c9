use Rattle.buffered_sink.proofs.through.write_through.Given as goal

abbrev pub ghosts-write_over : goal.ghosts-write_over
ghosts-write_over g a = record { base = g.S.Sink.written a.out }
