use Rattle.std.proofs.Common.{refl, subst}
use Rattle.dictionary.specs.Views.{Dictionary}
use Rattle.reverse_step.specs.Walks.{Walk}
use Rattle.reverse_step.specs.Children.{HasNoChildAt, LeadsToChild}
use Rattle.reverse_step.proofs.NextLemmas.{down_of}
use Rattle.reverse_step.proofs.walker.Walker.down.Goals as goal

pub returns-in_ok-descend-in-Some-clause-down : goal.returns-in_ok-descend-in-Some-clause-down
returns-in_ok-descend-in-Some-clause-down g c =
    down_of c.args.self.now c.descend.new.self c.args.col c.in-Some.row
    (subst (λ (w : Walk). LeadsToChild w.root w.dict c.args.col c.in-Some.row) c.self.view_is
    (subst (λ (d : Dictionary). LeadsToChild c.self.inside.order d c.args.col c.in-Some.row) c.deref.ensures c.in-Some.ensures))
    c.in_ok-descend-in-Some.ensures.down

pub returns-in-None-clause-down : goal.returns-in-None-clause-down
returns-in-None-clause-down g c = (
  refl,
  subst (λ (w : Walk). HasNoChildAt w.root w.dict c.args.col) c.self.view_is
      (subst (λ (d : Dictionary). HasNoChildAt c.self.inside.order d c.args.col) c.deref.ensures c.in-None.ensures),
)
