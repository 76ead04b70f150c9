use Rattle.std.proofs.Common.{◌≡◌, ◌<◌, ℕ, pos, length, get_or}
use Rattle.words.specs.Crosses.{AreQuotients}
use Rattle.words.specs.Small.{AreGood, AreSmallFrom}
use Rattle.words.proofs.small.SmallCross.write.Given as goal

abbrev pub invariant-cells : goal.invariant-cells
invariant-cells l = record {
  written : AreGood l.sizes l.low l.by.twos → AreQuotients l.self l.cells l.own l.base l.i l.new;
  small : AreGood l.sizes l.low l.by.twos → AreSmallFrom l.base l.i l.new;
  same_length : length l.new ≡ length l.fn.new;
  kept : (k : ℕ) → k < l.base → get_or l.new k (pos 0) ≡ get_or l.fn.new k (pos 0);
}
