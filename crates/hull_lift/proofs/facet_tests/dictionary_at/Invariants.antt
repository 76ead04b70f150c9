use Rattle.hull_lift.proofs.facet_tests.dictionary_at.Given as goal

abbrev pub ghosts-dictionary_counted : goal.ghosts-dictionary_counted
ghosts-dictionary_counted a = record { name = a.blank.name; parts = a.blank.parts }
