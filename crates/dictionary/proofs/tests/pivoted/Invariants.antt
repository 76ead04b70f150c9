use Rattle.dictionary.proofs.tests.pivoted.Given as goal

abbrev pub ghosts-pivoted_counted : goal.ghosts-pivoted_counted
ghosts-pivoted_counted a = record { name = a.blank.name; parts = a.blank.parts }
