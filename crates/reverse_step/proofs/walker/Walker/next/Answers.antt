use Rattle.std.proofs.Common.{Option, Some, None, ℕ, length, subst}
use Rattle.dictionary.specs.Views.{Dictionary}
use Rattle.reverse_step.specs.Walks.{Walk}
use Rattle.reverse_step.specs.Children.{NoneBetween, IsFirstChild}
use Rattle.reverse_step.specs.Moves.{GoesUp}
use Rattle.reverse_step.proofs.NextLemmas.{visit_new, visit_up}
use Rattle.reverse_step.proofs.walker.Walker.next.Goals as goal

pub returns-in-Some-clause-visit : goal.returns-in-Some-clause-visit
returns-in-Some-clause-visit g c =
    visit_new c.args.self.now c.descend.new.self c.in-Some.child
    (subst (λ (w : Walk). IsFirstChild w.root w.dict w.at c.in-Some.child) c.self.view_is
    (subst (λ (d : Dictionary). IsFirstChild c.self.inside.order d c.self.inside.at c.in-Some.child) c.deref.ensures
    c.in-Some.ensures))
    c.in_ok-descend.ensures.down

pub returns-in-Some-2-clause-visit : goal.returns-in-Some-2-clause-visit
returns-in-Some-2-clause-visit g c =
    visit_up c.args.self.now c.up.new.self (Some c.in-Some-2.field-0)
    (subst (λ (w : Walk). NoneBetween w.root w.dict w.at (length w.dict.key)) c.self.view_is
    (subst (λ (d : Dictionary). NoneBetween c.self.inside.order d c.self.inside.at (length d.key)) c.deref.ensures
    c.in_default.ensures))
    (subst (λ (o : Option ℕ). GoesUp c.args.self.now o c.up.new.self) c.in-Some-2.is c.in_ok-up.ensures.up)

pub returns-in-None-clause-visit : goal.returns-in-None-clause-visit
returns-in-None-clause-visit g c =
    visit_up c.args.self.now c.up.new.self None
    (subst (λ (w : Walk). NoneBetween w.root w.dict w.at (length w.dict.key)) c.self.view_is
    (subst (λ (d : Dictionary). NoneBetween c.self.inside.order d c.self.inside.at (length d.key)) c.deref.ensures
    c.in_default.ensures))
    (subst (λ (o : Option ℕ). GoesUp c.args.self.now o c.up.new.self) c.in-None.is c.in_ok-up.ensures.up)
