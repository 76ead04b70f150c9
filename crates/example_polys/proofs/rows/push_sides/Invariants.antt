use Rattle.std.proofs.Common.{◌≡◌, ◌++◌}
use Rattle.std.specs.List.{flat_map, range_with_len}
use Rattle.example_polys.specs.Cells.{end_to_end}
use Rattle.example_polys.specs.Examples.{sides}
use Rattle.example_polys.proofs.rows.push_sides.Given as goal

abbrev pub invariant-loop-i : goal.invariant-loop-i
invariant-loop-i l =
    l.cells.items ≡ l.initial.cells.items ++ end_to_end (flat_map (sides l.n) (range_with_len 0 l.i))
