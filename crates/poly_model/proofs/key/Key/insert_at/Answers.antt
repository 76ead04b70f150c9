use Rattle.poly_model.proofs.RoomLemmas.{fills_with, labels_with}
use Rattle.poly_model.proofs.key.Key.insert_at.Goals as goal

pub invariant_of-self : goal.invariant_of-self
invariant_of-self c = rw c.copy_within.ensures.after (fills_with c.self.inside.labels c.args.self.now c.self.inside.len c.args.at c.args.label c.self.invariant c.self.view_is c.requires.within c.requires.key)

pub returns : goal.returns
returns c = rw c.copy_within.ensures.after (labels_with c.self.inside.labels c.args.self.now c.self.inside.len c.args.at c.args.label c.self.invariant c.self.view_is c.requires.within c.requires.key)
