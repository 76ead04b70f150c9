use Rattle.std.proofs.Common.{refl, ap, length, ◌++◌, ◌∙◌}
use Rattle.std.proofs.lemmas.Result.{err_from_is_err_and}
use Rattle.poly_reader.proofs.RowLemmas.{ends, numbers_fail, row_fails, goes_on}
use Rattle.poly_reader.proofs.rows.table.Goals as goal

pub returns-in_err-numbers-clause-rows : goal.returns-in_err-numbers-clause-rows
returns-in_err-numbers-clause-rows c =
    let p = err_from_is_err_and c.from_residual-in_err-numbers.result c.from_residual-in_err-numbers.ensures.1 in
    rw (p.1, p.2) (numbers_fail c.in_err-numbers.field-0.0 c.args.last c.args.kind c.args.header.width c.rows.mark-index
    c.args.marks.now c.rows.words c.args.header.words c.rows.cells.items c.rows-test.true
    c.in_err-numbers.ensures.numbers c.rows.invariant)

pub returns-in_err-entries-clause-rows : goal.returns-in_err-entries-clause-rows
returns-in_err-entries-clause-rows c =
    let p = err_from_is_err_and c.from_residual-in_err-entries.result c.from_residual-in_err-entries.ensures.1 in
    rw (p.1, p.2) (row_fails c.in_err-entries.field-0.0 c.args.last c.args.kind c.args.header.width c.rows.mark-index _
    c.in_ok-numbers.numbers.items c.args.marks.now c.rows.words c.args.header.words c.rows.cells.items c.rows-test.true
    refl c.in_ok-numbers.ensures.numbers
    (rw (← c.line_of_first-line.ensures, ← c.deref.ensures.value) c.in_err-entries.ensures.row) c.rows.invariant)

pub rows-preserved : goal.rows-preserved
rows-preserved c =
    rw c.in_ok-extend_from_slice.ensures.items
    (goes_on c.args.last c.args.kind c.args.header.width c.rows.mark-index _ c.in_ok-numbers.numbers.items
    c.args.marks.now c.rows.words c.in_ok-numbers.rest c.args.header.words c.rows.cells.items
    c.in_ok-entries.entries.items _ c.rows-test.true refl c.in_ok-numbers.ensures.numbers
    (rw (← c.line_of_first-line.ensures, ← c.deref.ensures.value) c.in_ok-entries.ensures.row)
    (c.in_ok-entries.ensures.full ∙ ap length c.deref.ensures.value ∙ c.in_ok-numbers.ensures.full)
    c.in_ok-numbers.ensures.rest (ap (λ l. c.rows.cells.items ++ l) c.deref-in-rows.ensures.value) c.rows.invariant)

pub returns-clause-rows : goal.returns-clause-rows
returns-clause-rows c =
    ends c.args.last c.args.kind c.args.header.width c.rows.mark-index c.args.marks.now c.rows.words c.args.header.words
    c.rows.cells.items c.rows-test.false c.rows.invariant
