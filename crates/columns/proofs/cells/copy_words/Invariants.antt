use Rattle.std.proofs.Common.{◌≡◌, take}
use Rattle.columns.proofs.cells.copy_words.Given as goal

abbrev pub invariant-cells : goal.invariant-cells
invariant-cells l = take l.k l.words ≡ take l.k l.wide
