use Rattle.dictionary_laws.proofs.MainSpace.{main_dictionary}
use Rattle.dictionary_laws.proofs.main_dictionary.Goals as goal

pub returns : goal.returns
returns c = main_dictionary
