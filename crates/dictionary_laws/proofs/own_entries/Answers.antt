use Rattle.dictionary_laws.proofs.Values.{own_row}
use Rattle.dictionary_laws.proofs.own_entries.Goals as goal

pub returns : goal.returns
returns c space key t cobasis w k i = own_row space key cobasis t w k i
