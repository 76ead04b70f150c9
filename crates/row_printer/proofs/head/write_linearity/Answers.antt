use Rattle.std.proofs.Common.{[], ◌∷◌}
use Rattle.std.specs.Fmt.{decimal}
use Rattle.poly_io.proofs.Parts.{prints_cut, prints_none, prints_part, prints_then}
use Rattle.poly_model.specs.ListingText.{numbers_text}
use Rattle.row_printer.proofs.ListingTextLemmas.{linearity_text-none, linearity_text-some}
use Rattle.row_printer.proofs.head.write_linearity.Goals as goal

pub returns-then-lines-eq0 : goal.returns-then-lines-eq0
returns-then-lines-eq0 g c = rw (linearity_text-none c.args.lines c.if-lines-eq0.true) (prints_none _ _)

pub returns-in_err-write_all : goal.returns-in_err-write_all
returns-in_err-write_all g c =
    let n = c.args.lines in
    rw (linearity_text-some n c.if-lines-eq0.false)
    (prints_cut (10 ∷ []) c.from_residual.ensures.0
    (prints_part (numbers_text 1 n) (prints_part (decimal n) c.in_err-write_all.ensures)))

pub returns-in_err-write_count : goal.returns-in_err-write_count
returns-in_err-write_count g c =
    let n = c.args.lines in
    rw (linearity_text-some n c.if-lines-eq0.false)
    (prints_cut (10 ∷ []) c.from_residual-in_err-write_count.ensures.0
    (prints_part (numbers_text 1 n) (prints_then c.in_ok-write_all.ensures c.in_err-write_count.ensures)))

pub returns-in_err-write_numbers : goal.returns-in_err-write_numbers
returns-in_err-write_numbers g c =
    rw (linearity_text-some c.args.lines c.if-lines-eq0.false)
    (prints_cut (10 ∷ []) c.from_residual-in_err-write_numbers.ensures.0
    (prints_then (prints_then c.in_ok-write_all.ensures c.in_ok-write_count.ensures) c.in_err-write_numbers.ensures))

pub returns : goal.returns
returns g c =
    rw (linearity_text-some c.args.lines c.if-lines-eq0.false)
    (prints_then
    (prints_then (prints_then c.in_ok-write_all.ensures c.in_ok-write_count.ensures) c.in_ok-write_numbers.ensures)
    c.write_all-2.ensures)
