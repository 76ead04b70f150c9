use Rattle.std.proofs.Common.{◌≡◌, ◌+◌, ◌∷◌, length}
use Rattle.plain_enum.specs.Listed.{HasRoomFor}
use Rattle.plain_enum.specs.Visits.{HasVisited}
use Rattle.plain_enum.proofs.LoopUnder.{InLoop}
use Rattle.plain_enum.proofs.visit.+visit_under.Given as goal

abbrev pub decreases-visit_under : goal.decreases-visit_under
decreases-visit_under g l = length l.deeper.now

-- the vectors under the prefix whose lists take a row before row i are visited
abbrev pub invariant-rows : goal.invariant-rows
invariant-rows g l =
    record {
      room : HasRoomFor l.prefix.sys.now l.prefix.dict.now (l.next ∷ l.others) l.vector;
      depth : length l.others + 1 ≡ length l.fn.deeper;
      visited : InLoop g.V.Visit.visits g.V.Visit.ends l.prefix.sys.now l.prefix.free.now l.prefix.dict.now l.prefix.from
          (length l.fn.deeper) l.fn.visitor l.fn.out l.visitor l.out l.i;
      some : HasVisited g.V.Visit.visits l.fn.visitor l.fn.out l.visitor l.out;
    }
