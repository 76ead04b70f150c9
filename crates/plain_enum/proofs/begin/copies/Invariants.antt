use Rattle.std.proofs.Common.{◌≡◌, length}
use Rattle.std.specs.List.{All}
use Rattle.plain_enum.specs.Listed.{HasShapeOf}
use Rattle.plain_enum.proofs.begin.copies.Given as goal

-- as many copies as the loop has made, all of one shape
abbrev pub invariant-copies : goal.invariant-copies
invariant-copies l = record {
  count : length l.made.items ≡ l.counter;
  shapes : All (HasShapeOf l.dict) l.made.items;
}
