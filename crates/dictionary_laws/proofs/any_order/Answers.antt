use Rattle.dictionary_laws.proofs.SameLabels.{same_dictionary}
use Rattle.dictionary_laws.proofs.any_order.Goals as goal

pub returns : goal.returns
returns c space key other t same distinct d = same_dictionary space key other t distinct same d
