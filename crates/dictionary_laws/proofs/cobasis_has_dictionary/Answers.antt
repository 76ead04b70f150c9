use Rattle.dictionary_laws.proofs.Existence.{some_dictionary}
use Rattle.dictionary_laws.proofs.cobasis_has_dictionary.Goals as goal

pub returns : goal.returns
returns c = some_dictionary
