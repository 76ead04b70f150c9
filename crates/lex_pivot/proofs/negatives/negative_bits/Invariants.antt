use Rattle.std.proofs.Common.{◌≡◌, ◌≤◌, ◌+◌, ◌-◌}
use Rattle.lex_pivot.specs.Negatives.{bits_of, negative_in}
use Rattle.lex_pivot.proofs.negatives.negative_bits.Given as goal

abbrev pub invariant-cells : goal.invariant-cells
invariant-cells l = record {
  few : l.left ≤ l.count;
  bits : l.bits ≡ bits_of (negative_in l.table.dict.now l.j) (l.from + l.left) (l.count - l.left);
}

abbrev pub decreases-cells : goal.decreases-cells
decreases-cells l = l.left
