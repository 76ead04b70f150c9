use Rattle.std.proofs.Common.{◌≡◌, ◌+◌, suc, vec_len}
use Rattle.pivot_bench.proofs.table.push_row.Given as goal

abbrev pub invariant-loop-column : goal.invariant-loop-column
invariant-loop-column l = vec_len l.cells ≡ vec_len l.fn.cells + suc l.column-index
