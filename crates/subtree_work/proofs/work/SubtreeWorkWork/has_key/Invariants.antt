use Rattle.subtree_work.proofs.work.SubtreeWorkWork.has_key.Given as goal

abbrev pub ghosts-is_key : goal.ghosts-is_key
ghosts-is_key a = record { name = a.blank.name; parts = a.blank.parts }
