use Rattle.dictionary_laws.proofs.CoordinateSpaces.{phase_coordinates}
use Rattle.dictionary_laws.proofs.phase_coordinates.Goals as goal

pub returns : goal.returns
returns c = phase_coordinates
