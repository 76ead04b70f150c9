use Rattle.poly_model.proofs.RoomLemmas.{fills_without, labels_without}
use Rattle.poly_model.proofs.key.Key.remove_at.Goals as goal

pub invariant_of-self : goal.invariant_of-self
invariant_of-self c = rw c.copy_within.ensures.after (fills_without c.self.inside.labels c.args.self.now c.self.inside.len c.args.at c.self.invariant c.self.view_is c.requires)

pub returns-clause-value : goal.returns-clause-value
returns-clause-value c = rw c.copy_within.ensures.after (labels_without c.self.inside.labels c.args.self.now c.self.inside.len c.args.at c.self.invariant c.self.view_is c.requires)
