use Rattle.poly_model.proofs.KeyLemmas.{same_labels}
use Rattle.poly_model.proofs.key.Key.is_same.Goals as goal

pub returns : goal.returns
returns c = same_labels c.args.self.now c.args.other.now c.eq.result c.eq.ensures
