use Rattle.reverse_step.proofs.tests.dict_at.Given as goal

abbrev pub ghosts-exchange : goal.ghosts-exchange
ghosts-exchange a = record { name = a.blank.name; parts = a.blank.parts }
