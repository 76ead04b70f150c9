use Rattle.std.proofs.Common.{take}
use Rattle.std.specs.Prelude.{Some}
use Rattle.poly_reader.specs.Scaling.{AreEntries}
use Rattle.poly_reader.proofs.scaling.entries.Given as goal

-- the entries of the fractions before f-index
abbrev pub invariant-row : goal.invariant-row
invariant-row l = AreEntries l.p l.q (take l.f-index l.row) (Some l.entries.items)
