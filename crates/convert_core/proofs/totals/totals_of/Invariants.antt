use Rattle.convert_core.proofs.totals.totals_of.Given as goal

abbrev pub ghosts-totals_counted : goal.ghosts-totals_counted
ghosts-totals_counted a = record { name = a.blank.name; parts = a.blank.parts }
