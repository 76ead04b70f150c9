use Rattle.std.proofs.Common.{◌≡◌}
use Rattle.convert_core.proofs.Steps.{Going}
use Rattle.convert_core.proofs.walk.list_rows.Given as goal

-- the rows of the cobases visited were written, and the file is the same
abbrev pub invariant-steps : goal.invariant-steps
invariant-steps g l = record {
  going : Going g.S.Sink l.fn.search.poly.now l.fn.search.cone l.fn.search.rays l.fn.search.walker l.search.walker
      l.search.vector.items l.left l.fn.steps l.steps l.fn.shown l.fn.out l.shown l.out;
  poly : l.search.poly.now ≡ l.fn.search.poly.now;
  cone : l.search.cone ≡ l.fn.search.cone;
  rays : l.search.rays ≡ l.fn.search.rays;
}

abbrev pub decreases-steps : goal.decreases-steps
decreases-steps g l = l.left
