use Rattle.std.specs.Prelude.{IfErr}
use Rattle.std.proofs.Common.{sym, subst, ◌∙◌}
use Rattle.poly_model.specs.Due.{IsDue}
use Rattle.poly_model.specs.Subtrees.{IsSubtreeKey}
use Rattle.subtree_work.specs.Made.{BySubtrees, IsBySubtrees, IsAskedForKey}
use Rattle.subtree_work.proofs.Beginnings.{stands_at_key}
use Rattle.subtree_work.proofs.Searched.{asked_for_key, key_told}
use Rattle.subtree_work.proofs.work.SubtreeWorkWork.has_key.Goals as goal

pub returns-clause-ok : goal.returns-clause-ok
returns-clause-ok c s made =
    let here = subst (λ (w : BySubtrees). IsBySubtrees w s) (sym c.self.view_is) made in
    key_told s c.self.inside.search.walker.root here.work (here.root ∙ sym c.self.invariant.1) c.args.key.now c.is_key.result
    (c.is_key.ensures.key s.polyhedron here.file)

pub returns-clause-overflow : goal.returns-clause-overflow
returns-clause-overflow c s made =
    let here = subst (λ (w : BySubtrees). IsBySubtrees w s) (sym c.self.view_is) made in
    let t = c.self.inside.search in
    let root = c.self.invariant.1 in
    let stands = subst (λ r. IsSubtreeKey s.polyhedron r t.walker.dict.key) root
    (stands_at_key s.polyhedron t.sys.now t.rays t.walker t.vector.items (c.self.invariant.0.each s.polyhedron here.file)) in
    subst (λ (w : BySubtrees). IfErr c.is_key.result (λ o. IsDue s.polyhedron o (IsAskedForKey w s c.args.key.now o)))
    c.self.view_is
    (asked_for_key _ s stands c.args.key.now c.is_key.result (c.is_key.ensures.overflow s.polyhedron here.file))
