use Rattle.dictionary_laws.proofs.SameLabels.{agreeing_dictionary}
use Rattle.dictionary_laws.proofs.agreeing_tables.Goals as goal

pub returns : goal.returns
returns c = agreeing_dictionary
