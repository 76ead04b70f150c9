use Rattle.dictionary_laws.proofs.Starts.{start_exists, one_start, start_is_cobasis}
use Rattle.dictionary_laws.proofs.start_cobasis.Goals as goal

pub returns : goal.returns
returns c space = record
    { some = start_exists space; one = one_start space; cobasis = start_is_cobasis space }
