use Rattle.poly_io.proofs.Parts.{prints_cut, prints_then}
use Rattle.poly_num.specs.Fractions.{lowest}
use Rattle.poly_model.specs.ListingText.{denominator_text, fraction_text}
use Rattle.row_printer.proofs.point.write_coordinate.Goals as goal

pub returns-in_err-write_entry : goal.returns-in_err-write_entry
unfolding fraction_text
returns-in_err-write_entry g c =
    let f = lowest c.args.y c.args.first in
    prints_cut (denominator_text f.den) c.from_residual.ensures.0
    (rw (c.num-num.ensures.value, c.in-Some.ensures.value) at c.in_err-write_entry.ensures)

pub returns : goal.returns
unfolding fraction_text
returns g c =
    let f = lowest c.args.y c.args.first in
    prints_then (rw (c.num-num.ensures.value, c.in-Some.ensures.value) at c.in_ok-write_entry.ensures)
    (rw (c.den-den.ensures.value, c.in-Some.ensures.value) at c.write_denominator.ensures)
