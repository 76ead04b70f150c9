use Rattle.std.proofs.Common.{◌≡◌, take}
use Rattle.poly_model.specs.Systems.{Polyhedron, cone_of}
use Rattle.subset_work.specs.Counts.{HasCome}
use Rattle.subset_work.specs.Standing.{IsNext, HasRoom, IsDead}
use Rattle.subset_work.specs.Walked.{HasWalkedTo}
use Rattle.subset_work.proofs.dead.+visit_dead.Given as goal

abbrev pub decreases-visit_dead : goal.decreases-visit_dead
decreases-visit_dead g l = l.left

-- the list was visited, and its children whose last row comes before row i were met with all under them
abbrev pub invariant-rows : goal.invariant-rows
invariant-rows g l =
    record {
      come : HasCome l.so_far.most l.list.from l.i l.fn.so_far.count l.count;
      same : g.S.Sink.faults l.out ≡ g.S.Sink.faults l.fn.out;
      kept : take l.list.len l.trail.labels ≡ take l.list.len l.fn.trail.labels;
      walked : (p : Polyhedron) → l.list.sys.now ≡ cone_of p → HasRoom p (take l.list.len l.fn.trail.labels) l.left →
          IsNext (take l.list.len l.fn.trail.labels) l.list.from → IsDead p (take l.list.len l.fn.trail.labels) →
          HasWalkedTo p (take l.list.len l.fn.trail.labels) l.i l.so_far.most l.so_far.longest
          (g.S.Sink.written l.fn.out) (g.S.Sink.written l.out) l.fn.so_far.count l.count;
    }
