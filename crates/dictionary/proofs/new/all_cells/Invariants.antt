use Rattle.std.proofs.Common.{◌≡◌}
use Rattle.std.specs.List.{range_with_len}
use Rattle.dictionary.specs.Views.{by_columns}
use Rattle.dictionary.specs.New.{first_number}
use Rattle.dictionary.proofs.new.all_cells.Given as goal

abbrev pub invariant-loop-j : goal.invariant-loop-j
invariant-loop-j l =
    l.cells.items
    ≡ by_columns (first_number l.constants l.sys.rows) (range_with_len 1 l.count) (range_with_len 0 l.j)
