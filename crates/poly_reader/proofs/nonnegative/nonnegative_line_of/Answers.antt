use Rattle.std.proofs.Common.{sym, ◌∙◌}
use Rattle.poly_reader.proofs.NonnegativeLemmas.{no_lines, at_begin, found, goes_on}
use Rattle.poly_reader.proofs.nonnegative.nonnegative_line_of.Goals as goal

pub returns-in-None : goal.returns-in-None
returns-in-None c = sym (no_lines c.lines.lines c.in-None.ensures) ∙ c.lines.invariant

pub returns-then-begins_with : goal.returns-then-begins_with
returns-then-begins_with c =
    sym (at_begin c.lines.lines c.in-Some.next.1 c.in-Some.next.0 c.in-Some.ensures (sym c.if-begins_with.ensures))
    ∙ c.lines.invariant

pub returns-in-Some-nonnegative_line : goal.returns-in-Some-nonnegative_line
returns-in-Some-nonnegative_line c =
    sym (found c.lines.lines c.in-Some.next.1 c.in-Some.next.0 c.in-Some-nonnegative_line.number c.in-Some.ensures
    (sym c.if-begins_with.ensures) (sym c.in-Some-nonnegative_line.ensures))
    ∙ c.lines.invariant

pub lines-preserved : goal.lines-preserved
lines-preserved c =
    goes_on c.lines.lines c.in-Some.next.1 c.in-Some.next.0 c.in-Some.ensures (sym c.if-begins_with.ensures)
    (sym c.in-None-nonnegative_line.ensures)
    ∙ c.lines.invariant
