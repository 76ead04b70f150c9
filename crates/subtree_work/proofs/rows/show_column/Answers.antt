use Rattle.std.proofs.Common.{[], ◌∷◌, subst}
use Rattle.work_core.specs.ReplyLines.{row_line, WritesLines, WritesPartOfLines}
use Rattle.work_core.proofs.WalkedLemmas.{writes_row, part_row}
use Rattle.subtree_work.proofs.RowLines.{not_shown, is_shown, is_torn}
use Rattle.subtree_work.proofs.rows.show_column.Goals as goal

pub returns-then-not-shown_vector-clause-shows : goal.returns-then-not-shown_vector-clause-shows
returns-then-not-shown_vector-clause-shows g c =
    let at = c.args.at.now in
    not_shown at.cone.now at.order.now at.dict.now c.args.col (g.S.Sink.written c.args.out.now) c.args.count
    (λ x. let t = c.shown_vector.ensures.shown.1 x in let n = c.if-not-shown_vector.true in cc)

pub returns-in-Ok-clause-shows : goal.returns-in-Ok-clause-shows
returns-in-Ok-clause-shows g c =
    let at = c.args.at.now in
    let is = c.shown_vector.ensures.value c.if-not-shown_vector.false in
    is_shown at.cone.now at.order.now at.dict.now c.args.col (g.S.Sink.written c.args.out.now)
    (g.S.Sink.written c.write_row.new.out) c.args.count c.one_row.result
    (c.shown_vector.ensures.shown.0 c.if-not-shown_vector.false)
    (subst (λ v. WritesLines (g.S.Sink.written c.args.out.now) (g.S.Sink.written c.write_row.new.out) (row_line v ∷ [])) is
    (writes_row (g.S.Sink.written c.args.out.now) (g.S.Sink.written c.write_row.new.out) c.shown_vector.new.vector
    c.in-Ok.ensures.prints.whole c.write_row.ensures.numbers))
    c.one_row.ensures.rows c.one_row.ensures.jobs c.one_row.ensures.bases

pub returns-in-Err-clause-tears : goal.returns-in-Err-clause-tears
returns-in-Err-clause-tears g c =
    let at = c.args.at.now in
    let is = c.shown_vector.ensures.value c.if-not-shown_vector.false in
    is_torn at.cone.now at.order.now at.dict.now c.args.col (g.S.Sink.written c.args.out.now)
    (g.S.Sink.written c.write_row.new.out)
    (c.shown_vector.ensures.shown.0 c.if-not-shown_vector.false)
    (subst (λ v. WritesPartOfLines (g.S.Sink.written c.args.out.now) (g.S.Sink.written c.write_row.new.out) (row_line v ∷ []))
    is
    (part_row (g.S.Sink.written c.args.out.now) (g.S.Sink.written c.write_row.new.out) c.shown_vector.new.vector
    c.in-Err.ensures.prints.part c.write_row.ensures.numbers))
