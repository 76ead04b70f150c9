use Rattle.std.proofs.Common.{sym}
use Rattle.std.proofs.lemmas.Result.{err_from_is_err_and}
use Rattle.poly_reader.proofs.MarkLemmas.{ends, fails, goes_on, no_lines, at_begin, one_line}
use Rattle.poly_reader.proofs.marks.mark_lines.Goals as goal

pub returns-in-None : goal.returns-in-None
returns-in-None c = ends c.lines.marks _ _ _ _ (no_lines c.lines.lines c.in-None.ensures) c.lines.invariant

pub returns-then-begins_with : goal.returns-then-begins_with
returns-then-begins_with c =
    ends c.lines.marks _ _ _ _
    (at_begin c.lines.lines c.in-Some.next.1 c.in-Some.next.0 c.in-Some.ensures (sym c.if-begins_with.ensures))
    c.lines.invariant

pub returns-in_err-mark_line : goal.returns-in_err-mark_line
returns-in_err-mark_line c =
    let p = err_from_is_err_and c.from_residual.result c.from_residual.ensures.1 in
    rw (p.1, p.2) (fails c.in_err-mark_line.field-0.0 c.lines.marks _ c.mark_line.new.marks _ _ _ _
    (one_line c.lines.lines c.in-Some.next.1 c.in-Some.next.0 c.in-Some.ensures (sym c.if-begins_with.ensures))
    c.in_err-mark_line.ensures c.lines.invariant)

pub lines-preserved : goal.lines-preserved
lines-preserved c =
    goes_on _ c.lines.marks _ _ _ _ _ _
    (one_line c.lines.lines c.in-Some.next.1 c.in-Some.next.0 c.in-Some.ensures (sym c.if-begins_with.ensures))
    c.in_ok-mark_line.ensures c.lines.invariant
