use Rattle.dictionary.proofs.tests.pivot.Given as goal

abbrev pub ghosts-pivot_counted : goal.ghosts-pivot_counted
ghosts-pivot_counted a = record { name = a.blank.name; parts = a.blank.parts }
