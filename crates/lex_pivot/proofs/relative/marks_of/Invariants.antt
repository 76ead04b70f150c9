use Rattle.std.proofs.Common.{take}
use Rattle.lex_pivot.specs.Earlier.{AreMarks}
use Rattle.lex_pivot.proofs.relative.marks_of.Given as goal

abbrev pub invariant-labels : goal.invariant-labels
invariant-labels l = AreMarks (take l.label-index l.labels) l.marks.items
