use Rattle.reverse_step.proofs.tests.start_at.Given as goal

abbrev pub ghosts-start_counted : goal.ghosts-start_counted
ghosts-start_counted a = record { name = a.blank.name; parts = a.blank.parts }
