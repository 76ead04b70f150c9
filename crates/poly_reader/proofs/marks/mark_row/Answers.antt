use Rattle.std.proofs.Common.{inl, inr}
use Rattle.poly_reader.specs.Lines.{word}
use Rattle.poly_reader.specs.Head.{name_at}
use Rattle.poly_reader.proofs.MarkLemmas.{refused, marked}
use Rattle.poly_reader.proofs.marks.mark_row.Goals.{then-row-eq0-via-then-row-eq0, then-row-eq0-via-else-row-eq0+then-row-marks}
use Rattle.poly_reader.proofs.marks.mark_row.Goals as goal

pub returns-then-row-eq0 : goal.returns-then-row-eq0
returns-then-row-eq0 c = rw c.bad.ensures (refused _ (name_at c.args.line (word c.args.w)) (elim c.then-row-eq0.branch [
  | then-row-eq0-via-then-row-eq0 w ↦ inl (rw (← c.value-row.ensures) w.if-row-eq0.true)
  | then-row-eq0-via-else-row-eq0+then-row-marks w ↦ inr (rw (← c.value-row.ensures) w.if-row-marks.true)
]) c.requires)

pub returns : goal.returns
returns c =
    rw c.value-row.ensures (marked c.args.marks.now (name_at c.args.line (word c.args.w))
    (rw (← c.value-row.ensures) c.if-row-eq0.false) (rw (← c.value-row.ensures) c.if-row-marks.false) c.requires)
