use Rattle.std.proofs.Common.{◌≡◌, ◌++◌, map}
use Rattle.std.specs.List.{range_with_len}
use Rattle.dictionary.specs.New.{first_number}
use Rattle.dictionary.proofs.new.push_column.Given as goal

abbrev pub invariant-loop-i : goal.invariant-loop-i
invariant-loop-i l =
    l.cells.items
    ≡ l.fn.cells.items ++ map (λ i. first_number l.constants l.sys.rows i l.j) (range_with_len 1 l.i)
