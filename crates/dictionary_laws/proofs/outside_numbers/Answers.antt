use Rattle.dictionary_laws.proofs.Least.{divides_all}
use Rattle.dictionary_laws.proofs.outside_numbers.Goals as goal

pub returns : goal.returns
returns c = divides_all
