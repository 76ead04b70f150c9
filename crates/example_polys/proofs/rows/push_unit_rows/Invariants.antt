use Rattle.std.proofs.Common.{◌≡◌, ◌∷◌, ◌++◌, map}
use Rattle.std.specs.List.{range_with_len}
use Rattle.example_polys.specs.Cells.{end_to_end}
use Rattle.example_polys.specs.Examples.{one_at}
use Rattle.example_polys.proofs.rows.push_unit_rows.Given as goal

abbrev pub invariant-loop-i : goal.invariant-loop-i
invariant-loop-i l =
    l.cells.items
    ≡ l.initial.cells.items ++ end_to_end (map (λ i. l.constant ∷ one_at l.n i l.x) (range_with_len 0 l.i))
