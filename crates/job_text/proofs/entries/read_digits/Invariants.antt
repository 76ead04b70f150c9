use Rattle.std.proofs.Common.{◌≡◌, ◌++◌, length, take}
use Rattle.std.specs.List.{AllByRecursion}
use Rattle.poly_num.specs.Numbers.{IsNum}
use Rattle.poly_model.specs.ListingText.{entries_text}
use Rattle.job_text.proofs.entries.read_digits.Given as goal

-- the entries read so far, and what is behind them
abbrev pub invariant-loop-i : goal.invariant-loop-i
invariant-loop-i l = record {
  nums : AllByRecursion IsNum (take l.i l.row);
  found : l.text ≡ entries_text (take l.i l.row) ++ l.left;
  size : length l.row ≡ length l.initial.row;
}
