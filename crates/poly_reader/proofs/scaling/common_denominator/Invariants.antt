use Rattle.std.proofs.Common.{take}
use Rattle.poly_reader.specs.Scaling.{common_den, IsCapped}
use Rattle.poly_reader.proofs.scaling.common_denominator.Given as goal

-- the least common denominator of the fractions before f-index
abbrev pub invariant-row : goal.invariant-row
invariant-row l = IsCapped (common_den (take l.f-index l.row)) l.q
