use Rattle.plain_enum.proofs.Standings.{new_by_entry, follows_by_entries}
use Rattle.plain_enum.proofs.next_row_by_entries.Goals as goal

pub returns-clause-new : goal.returns-clause-new
returns-clause-new c = λ p cone d fixed left marks s l k h n. new_by_entry p cone d fixed left marks s l k h n

pub returns-clause-follows : goal.returns-clause-follows
returns-clause-follows c = λ p cone d fixed left marks s l h. follows_by_entries p cone d fixed left marks s l h
