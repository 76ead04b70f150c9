use Rattle.dictionary_laws.proofs.Narrow.{cobasis_is_narrow}
use Rattle.dictionary_laws.proofs.cobasis_is_narrow.Goals as goal

pub returns : goal.returns
returns c = cobasis_is_narrow
