use Rattle.linearity.proofs.eliminate.try_row.Given as goal

abbrev pub ghosts-enter : goal.ghosts-enter
ghosts-enter a = record { name = a.blank.name; parts = a.blank.parts }
