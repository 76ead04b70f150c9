use Rattle.std.proofs.Common.{sym, subst, ◌∙◌}
use Rattle.poly_model.specs.Subtrees.{IsSubtreeRoot}
use Rattle.convert_core.proofs.Searching.{subtree_root}
use Rattle.subtree_work.proofs.Searched.{may_begin}
use Rattle.subtree_work.proofs.work.SubtreeWork.new.Goals as goal

pub returns-in-Ok-clause-work : goal.returns-in-Ok-clause-work
returns-in-Ok-clause-work c s work root file =
    let t = c.in-Ok.search in
    let here = c.in-Ok.ensures.begins.same_cone ∙ file in
    record {
      work = work;
      root = root ∙ sym c.key.ensures;
      file = here;
      begins = may_begin s c.args.root.key work root
          (subst (IsSubtreeRoot s.polyhedron) c.in-Ok.ensures.begins.same_root
          (subtree_root s.polyhedron t.sys.now t.rays t.walker t.vector.items
          (c.in-Ok.ensures.begins.search.each s.polyhedron here)));
    }
