use Rattle.std.proofs.Common.{sym, ap, length, ◌∙◌}
use Rattle.std.specs.Prelude.{false}
use Rattle.std.proofs.lemmas.Result.{err_from_is_err_and}
use Rattle.std.proofs.lemmas.List.{length-replicate}
use Rattle.poly_reader.proofs.MarkLemmas.{checked, unchecked}
use Rattle.poly_reader.proofs.marks.linear_marks.Goals as goal

pub returns-in_err-mark_lines-clause-marks : goal.returns-in_err-mark_lines-clause-marks
returns-in_err-mark_lines-clause-marks c =
    let p = err_from_is_err_and c.from_residual-in_err-mark_lines.result c.from_residual-in_err-mark_lines.ensures.1 in
    rw (p.1, p.2) (unchecked c.in_err-mark_lines.field-0.0 c.args.m _ c.deref_mut.result.now c.mark_lines.new.marks
    (c.deref_mut.ensures.value ∙ c.in_ok-marks.ensures) c.in_err-mark_lines.ensures)

pub returns-clause-marks : goal.returns-clause-marks
returns-clause-marks c =
    let blank = c.deref_mut.ensures.value ∙ c.in_ok-marks.ensures in
    checked _ c.args.m c.in_ok-marks.marks.len _ c.deref_mut.result.now c.mark_lines.new.marks _
    blank (sym c.deref_mut.ensures.len ∙ ap length blank ∙ length-replicate c.args.m false) c.in_ok-mark_lines.ensures
