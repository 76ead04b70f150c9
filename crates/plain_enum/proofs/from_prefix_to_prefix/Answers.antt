use Rattle.plain_enum.proofs.BeginAt.{stands}
use Rattle.plain_enum.proofs.Steps.{pivot_takes, dictionary_stays}
use Rattle.plain_enum.proofs.from_prefix_to_prefix.Goals as goal

pub returns-clause-begins : goal.returns-clause-begins
returns-clause-begins c = stands

pub returns-clause-takes : goal.returns-clause-takes
returns-clause-takes c = λ p cone d new fixed left marks s l k h e. pivot_takes p cone d new fixed left marks s k h e l

pub returns-clause-stays : goal.returns-clause-stays
returns-clause-stays c = dictionary_stays
