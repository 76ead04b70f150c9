use Rattle.std.proofs.Common.{◌≡◌, take, ℕ, ◌<◌, ◌+◌, ◌*ℤ◌, pos, get_or}
use Rattle.poly_num.specs.Numbers.{IsNum}
use Rattle.poly_num.specs.Vectors.{◌·◌}
use Rattle.poly_num.proofs.signs.dot_sign.Given as goal

abbrev pub invariant-loop-i : goal.invariant-loop-i
invariant-loop-i l = record {
  sum_is : l.sum ≡ take l.i l.a · take l.i l.b;
  fits : (k : ℕ) → k < l.i →
      IsNum (get_or l.a k (pos 0) *ℤ get_or l.b k (pos 0)) × IsNum (take (k + 1) l.a · take (k + 1) l.b);
}
