use Rattle.std.proofs.Common.{◌≡◌, ◌+◌, ◌*◌, vec_len}
use Rattle.pivot_bench.proofs.prepare.system.Given as goal

abbrev pub invariant-columns : goal.invariant-columns
invariant-columns l = vec_len l.cells ≡ vec_len l.initial.cells + l.j

abbrev pub invariant-rows : goal.invariant-rows
invariant-rows l = (vec_len l.linear ≡ l.i) × (vec_len l.kinds ≡ l.i) × (vec_len l.cells ≡ l.i * l.n)
