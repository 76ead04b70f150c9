use Rattle.job_text.proofs.writing.write_ledger_line.Goals as goal

pub returns-in-Subsets : goal.returns-in-Subsets
returns-in-Subsets g c = rw c.in-Subsets.is c.write_all.ensures

pub returns-in-Subtrees : goal.returns-in-Subtrees
returns-in-Subtrees g c = rw c.in-Subtrees.is c.write_all-in-Subtrees.ensures
