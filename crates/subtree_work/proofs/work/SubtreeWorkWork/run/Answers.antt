use Rattle.std.proofs.Common.{◌⊎◌, List, ℕ, sym, subst, ◌∙◌}
use Rattle.poly_model.specs.Due.{IsDue, IsAskedInMain, IsAskedOnTheWay}
use Rattle.poly_model.specs.Subtrees.{IsSubtreeKey}
use Rattle.subtree_work.specs.Made.{BySubtrees, IsBySubtrees, IsAskedInRun}
use Rattle.subtree_work.proofs.Beginnings.{stands_at_key}
use Rattle.subtree_work.proofs.Searched.{asked_in_run, key_there, whole_told, cut_told, torn_told}
use Rattle.subtree_work.proofs.work.SubtreeWorkWork.run.Goals as goal

pub returns-clause-whole : goal.returns-clause-whole
returns-clause-whole g c s made =
    let here = subst (λ (w : BySubtrees). IsBySubtrees w s) (sym c.self.view_is) made in
    let root = c.self.inside.search.walker.root in
    let same = here.root ∙ sym c.self.invariant.1 in
    let key = c.args.key.now in
    whole_told s root here.work same key (g.S.Sink.written c.args.out.now) (g.S.Sink.written c.run_under.new.out)
    c.args.budget c.run_under.result
    (c.run_under.ensures.whole s.polyhedron here.file (key_there s root here.work same key (c.requires.key s made)))

pub returns-clause-overflow : goal.returns-clause-overflow
returns-clause-overflow g c o e s made =
    let here = subst (λ (w : BySubtrees). IsBySubtrees w s) (sym c.self.view_is) made in
    let root = c.self.inside.search.walker.root in
    let same = here.root ∙ sym c.self.invariant.1 in
    let key = c.args.key.now in
    let both = c.run_under.ensures.overflow o e s.polyhedron here.file
    (key_there s root here.work same key (c.requires.key s made)) in
    let t = c.self.inside.search in
    let stands = subst (λ r. IsSubtreeKey s.polyhedron r t.walker.dict.key) c.self.invariant.1
    (stands_at_key s.polyhedron t.sys.now t.rays t.walker t.vector.items (c.self.invariant.0.each s.polyhedron here.file)) in (
      subst (λ (w : BySubtrees). IsDue s.polyhedron o (IsAskedInRun w s key o)) c.self.view_is
          (asked_in_run _ s stands key o
          (subst (λ (r : List ℕ). IsDue s.polyhedron o (λ passes. IsAskedOnTheWay s.polyhedron t.walker.dict.key key o passes
          ⊎ IsAskedInMain s.polyhedron r o passes)) c.self.invariant.1 both.0)),
      cut_told s root here.work same key (g.S.Sink.written c.args.out.now) (g.S.Sink.written c.run_under.new.out) both.1,
    )

pub returns-clause-torn : goal.returns-clause-torn
returns-clause-torn g c s made =
    let here = subst (λ (w : BySubtrees). IsBySubtrees w s) (sym c.self.view_is) made in
    let root = c.self.inside.search.walker.root in
    let same = here.root ∙ sym c.self.invariant.1 in
    let key = c.args.key.now in
    torn_told s root here.work same key (g.S.Sink.written c.args.out.now) (g.S.Sink.written c.run_under.new.out)
    c.run_under.result
    (c.run_under.ensures.torn s.polyhedron here.file (key_there s root here.work same key (c.requires.key s made)))
