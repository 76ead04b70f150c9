use Rattle.std.proofs.Common.{◌≡◌, ◌+◌, ◌%◌, ◌^◌, take}
use Rattle.row_printer.specs.Rows.{entries_size}
use Rattle.row_printer.proofs.counting.with_sizes.Given as goal

abbrev pub invariant-loop-x : goal.invariant-loop-x
invariant-loop-x l = l.sum ≡ (l.fn.sum + entries_size (take l.x-index l.v)) % 2 ^ 64
