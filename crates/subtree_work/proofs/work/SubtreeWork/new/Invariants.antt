use Rattle.subtree_work.proofs.work.SubtreeWork.new.Given as goal

abbrev pub ghosts-begin : goal.ghosts-begin
ghosts-begin a = record { name = a.blank.name; parts = a.blank.parts }
