use Rattle.std.proofs.Common.{IfOk, [], ◌∷◌, subst}
use Rattle.poly_num.specs.Vectors.{Vector}
use Rattle.poly_model.specs.ListingText.{row_text}
use Rattle.poly_io.specs.Written.{Prints}
use Rattle.row_printer.specs.declared.shown.Shown.{Shown}
use Rattle.row_printer.specs.Rows.{Counts}
use Rattle.convert_core.proofs.RowsWritten.{not_shown, is_shown}
use Rattle.convert_core.proofs.rows.show_column.Goals as goal

pub returns-then-not-shown_vector-clause-shows : goal.returns-then-not-shown_vector-clause-shows
returns-then-not-shown_vector-clause-shows g c =
    not_shown g.S.Sink c.args.at.now.cone.now c.args.at.now.order.now c.args.at.now.dict.now c.args.col c.args.shown
    c.args.out.now
    (λ x. let t = c.shown_vector.ensures.shown.1 x in let n = c.if-not-shown_vector.true in cc)

pub returns-clause-shows : goal.returns-clause-shows
returns-clause-shows g c =
    let is = c.shown_vector.ensures.value c.if-not-shown_vector.false in
    is_shown g.S.Sink c.args.at.now.cone.now c.args.at.now.order.now c.args.at.now.dict.now c.args.col c.args.shown
    c.args.out.now c.row.new.out c.row.result
    (c.shown_vector.ensures.shown.0 c.if-not-shown_vector.false)
    (subst (λ v. Prints g.S.Sink c.args.out.now c.row.new.out c.row.result (row_text c.args.shown.listing v)) is
    c.row.ensures.prints)
    c.row.ensures.kind
    (subst (λ (v : Vector). IfOk c.row.result (λ (t : Shown). Counts c.args.shown.tally t.tally (v ∷ []))) is c.row.ensures.count)
