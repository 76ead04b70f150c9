use Rattle.dictionary.proofs.tests.pivot_over.Given as goal

abbrev pub ghosts-pivot_over_counted : goal.ghosts-pivot_over_counted
ghosts-pivot_over_counted a = record { name = a.blank.name; parts = a.blank.parts }
