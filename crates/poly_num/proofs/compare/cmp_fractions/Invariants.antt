use Rattle.std.proofs.Common.{◌<◌, ◌+◌, Ordering}
use Rattle.poly_num.specs.Numbers.{Orders}
use Rattle.poly_num.proofs.compare.cmp_fractions.Given as goal

abbrev pub invariant-steps : goal.invariant-steps
invariant-steps l = record {
  left : 0 < l.b;
  right : 0 < l.d;
  same : (r : Ordering) → Orders r l.a l.b l.c l.d → Orders r l.fn.a l.fn.b l.fn.c l.fn.d;
}

abbrev pub decreases-steps : goal.decreases-steps
decreases-steps l = l.b + l.d
