use Rattle.std.proofs.Common.{◌<◌, ℕ, pos}
use Rattle.std.specs.List.{slice_index_or}
use Rattle.poly_num.specs.Numbers.{IsNum}
use Rattle.work_core.proofs.lines.are_numbers.Given as goal

-- the entries before i
abbrev pub invariant-entries : goal.invariant-entries
invariant-entries l = (k : ℕ) → k < l.i → IsNum (slice_index_or l.v k (pos 0))
