use Rattle.dictionary_laws.proofs.SameLabels.{one_dictionary}
use Rattle.dictionary_laws.proofs.dictionary_is_one.Goals as goal

pub returns : goal.returns
returns c = one_dictionary
