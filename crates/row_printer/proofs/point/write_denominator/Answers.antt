use Rattle.std.proofs.Common.{◌≡◌, pos}
use Rattle.std.specs.Fmt.{signed_decimal}
use Rattle.poly_io.proofs.Parts.{prints_cut, prints_none, prints_then}
use Rattle.row_printer.proofs.ListingTextLemmas.{denominator_text-one, denominator_text-other}
use Rattle.row_printer.proofs.point.write_denominator.Goals as goal

pub returns-then-is_one : goal.returns-then-is_one
returns-then-is_one g c = rw (denominator_text-one c.args.den (c.is_one.ensures.0 c.if-is_one.true)) (prints_none _ _)

pub returns-in_err-write_all : goal.returns-in_err-write_all
returns-in_err-write_all g c =
    let other : ¬ (c.args.den ≡ pos 1) = λ e. let h = c.is_one.ensures.1 e in cc in
    rw (denominator_text-other c.args.den other)
    (prints_cut (signed_decimal c.args.den) c.from_residual.ensures.0 c.in_err-write_all.ensures)

pub returns : goal.returns
returns g c =
    let other : ¬ (c.args.den ≡ pos 1) = λ e. let h = c.is_one.ensures.1 e in cc in
    rw (denominator_text-other c.args.den other) (prints_then c.in_ok-write_all.ensures c.write_num.ensures)
