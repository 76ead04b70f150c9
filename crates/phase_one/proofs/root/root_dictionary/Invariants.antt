use Rattle.phase_one.proofs.root.root_dictionary.Given as goal

abbrev pub ghosts-from_worst : goal.ghosts-from_worst
ghosts-from_worst a = record { name = a.blank.name; parts = a.blank.parts }
