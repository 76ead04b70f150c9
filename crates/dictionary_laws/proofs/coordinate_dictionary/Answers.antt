use Rattle.dictionary_laws.proofs.CoordinateDictionary.{coordinate_dictionary}
use Rattle.dictionary_laws.proofs.coordinate_dictionary.Goals as goal

pub returns : goal.returns
returns c = coordinate_dictionary
