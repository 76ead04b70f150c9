use Rattle.plain_enum.proofs.OneLeft.{one_is_left, test_by_entries}
use Rattle.plain_enum.proofs.where_one_is_left.Goals as goal

pub returns-clause-left : goal.returns-clause-left
returns-clause-left c = λ p cone d fixed k marks s b. one_is_left p cone d fixed k marks s b

pub returns-clause-tested : goal.returns-clause-tested
returns-clause-tested c = test_by_entries
