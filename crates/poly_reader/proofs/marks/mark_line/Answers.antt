use Rattle.std.proofs.Common.{sym}
use Rattle.poly_reader.specs.Head.{names_on}
use Rattle.poly_reader.proofs.MarkLemmas.{nothing}
use Rattle.poly_reader.proofs.marks.mark_line.Goals as goal

pub returns-then-is : goal.returns-then-is
unfolding names_on
returns-then-is c = rw (c.in-Some.ensures.word, sym c.if-is.ensures) c.mark_behind.ensures

pub returns-else-is : goal.returns-else-is
unfolding names_on
returns-else-is c = rw (c.in-Some.ensures.word, sym c.if-is.ensures) (nothing c.args.marks.now _)

pub returns-in-None : goal.returns-in-None
unfolding names_on
returns-in-None c = rw c.in-None.ensures.word (nothing c.args.marks.now _)
