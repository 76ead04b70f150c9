use Rattle.dictionary_laws.proofs.CoordinateSpaces.{coordinate_keys}
use Rattle.dictionary_laws.proofs.coordinate_keys.Goals as goal

pub returns : goal.returns
returns c = coordinate_keys
