use Rattle.std.proofs.Common.{◌≡◌}
use Rattle.poly_model.specs.Systems.{Polyhedron, cone_of}
use Rattle.subtree_work.proofs.Running.{Running}
use Rattle.subtree_work.proofs.walk.run_on.Given as goal

-- of each polyhedron with this cone the run is on its way
abbrev pub invariant-steps : goal.invariant-steps
invariant-steps g l = record {
  going : (p : Polyhedron) → l.fn.search.sys.now ≡ cone_of p → Running p l.fn.search.sys.now l.fn.search.rays l.fn.budget
      l.fn.search.walker l.search.walker l.search.vector.items l.left l.so_far (g.S.Sink.written l.fn.out)
      (g.S.Sink.written l.out);
  sys : l.search.sys.now ≡ l.fn.search.sys.now;
  rays : l.search.rays ≡ l.fn.search.rays;
  same : g.S.Sink.faults l.out ≡ g.S.Sink.faults l.fn.out;
}

abbrev pub decreases-steps : goal.decreases-steps
decreases-steps g l = l.left
