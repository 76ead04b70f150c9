use Rattle.std.proofs.Common.{◌≡◌, ◌≤◌, length, take}
use Rattle.plain_enum.specs.Begin.{left_in}
use Rattle.plain_enum.proofs.begin.count_left.Given as goal

-- those among the labels before this one, which are no more
abbrev pub invariant-labels : goal.invariant-labels
invariant-labels l =
    record {
      count : l.count ≡ length (left_in l.free (take l.label-index l.label-items));
      within : l.count ≤ l.label-index;
    }
