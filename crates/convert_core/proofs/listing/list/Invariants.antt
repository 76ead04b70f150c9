use Rattle.convert_core.proofs.listing.list.Given as goal

abbrev pub ghosts-list_counted : goal.ghosts-list_counted
ghosts-list_counted g a = record { name = a.blank.name; parts = a.blank.parts }
