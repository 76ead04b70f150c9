use Rattle.std.proofs.Common.{◌≡◌, ◌+◌, ◌-◌, ◌*◌, length, take}
use Rattle.poly_model.specs.Systems.{Polyhedron}
use Rattle.plain_enum.specs.Listed.{HasRoomFor}
use Rattle.subset_work.specs.Counts.{HasCome}
use Rattle.subset_work.specs.Standing.{IsNext, HasRoom, IsLive}
use Rattle.subset_work.specs.Walked.{HasWalkedTo}
use Rattle.subset_work.proofs.live.+live.Given as goal

-- a list is come to before it is visited, and each label that is taken takes a dictionary
abbrev pub decreases-visit_live : goal.decreases-visit_live
decreases-visit_live g l = 3 * length l.deeper.now + 1

abbrev pub decreases-visit_under : goal.decreases-visit_under
decreases-visit_under g l = 3 * (length l.deeper.now - length l.way.now.rest.now) + length l.way.now.rest.now + 2

-- the list was visited, and its children whose last row comes before row i were met with all under them
abbrev pub invariant-visit_live-rows : goal.invariant-visit_live-rows
invariant-visit_live-rows g l =
    record {
      room : HasRoomFor l.live.prefix.sys.now l.live.prefix.dict.now l.deeper l.vector;
      depth : length l.deeper ≡ length l.fn.deeper;
      come : HasCome l.live.so_far.now.most l.live.prefix.from l.i l.live.so_far.now.count l.count;
      same : g.S.Sink.faults l.out ≡ g.S.Sink.faults l.fn.out;
      kept : take l.live.len l.trail.labels ≡ take l.live.len l.fn.trail.labels;
      walked : (p : Polyhedron) → IsLive l.live.prefix.sys.now l.live.prefix.free.now l.live.prefix.dict.now
          l.live.prefix.from (length l.fn.deeper) p (take l.live.len l.fn.trail.labels) →
          HasRoom p (take l.live.len l.fn.trail.labels) (length l.fn.deeper) →
          IsNext (take l.live.len l.fn.trail.labels) l.live.prefix.from →
          HasWalkedTo p (take l.live.len l.fn.trail.labels) l.i l.live.so_far.now.most l.live.so_far.now.longest
          (g.S.Sink.written l.fn.out) (g.S.Sink.written l.out) l.live.so_far.now.count l.count;
    }
