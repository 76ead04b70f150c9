use Rattle.std.proofs.Common.{◌≡◌, ◌<◌, ℕ, pos, length, get_or}
use Rattle.words.specs.Crosses.{AreQuotients}
use Rattle.words.specs.Limits.{AreUpTo, AreInWord}
use Rattle.words.proofs.word_cross.WordCross.write.Given as goal

abbrev pub invariant-cells : goal.invariant-cells
invariant-cells l = record {
  written : AreInWord l.limit l.low l.by.cross.divisor l.by.cross.twos →
      AreQuotients l.self.cross l.cells l.own l.base l.i l.new;
  limit : AreUpTo l.limit l.base l.i l.new;
  same_length : length l.new ≡ length l.fn.new;
  kept : (k : ℕ) → k < l.base → get_or l.new k (pos 0) ≡ get_or l.fn.new k (pos 0);
}
