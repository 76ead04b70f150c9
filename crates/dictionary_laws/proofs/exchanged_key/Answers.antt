use Rattle.dictionary_laws.proofs.KeyExchange.{exchanged_key}
use Rattle.dictionary_laws.proofs.exchanged_key.Goals as goal

pub returns : goal.returns
returns c = exchanged_key
