use Rattle.plain_enum.proofs.visit.take_row.Given as goal

abbrev pub ghosts-take_row_counted : goal.ghosts-take_row_counted
ghosts-take_row_counted a = record { name = a.blank.name; parts = a.blank.parts }
