use Rattle.std.proofs.Common.{◌≡◌, ◌*◌, suc, length, vec_len}
use Rattle.pivot_bench.proofs.table.Table.of.Given as goal

abbrev pub invariant-labels : goal.invariant-labels
invariant-labels l = vec_len l.cells ≡ vec_len l.labels * suc (length l.key)
