use Rattle.dictionary_laws.proofs.NewNumbers.{exchanged_writes}
use Rattle.dictionary_laws.proofs.exchanged_numbers.Goals as goal

pub returns : goal.returns
returns c = exchanged_writes
