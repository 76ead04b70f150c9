use Rattle.poly_io.proofs.Parts.{prints_cut, prints_part, prints_then}
use Rattle.poly_model.specs.ListingText.{head_text, linearity_text, size_text}
use Rattle.row_printer.proofs.head.write_head.Goals as goal

pub returns-in_err-write_title : goal.returns-in_err-write_title
unfolding head_text
returns-in_err-write_title g c =
    prints_cut (size_text c.args.n) c.from_residual.ensures.0
    (prints_part (linearity_text c.args.lines) c.in_err-write_title.ensures)

pub returns-in_err-write_linearity : goal.returns-in_err-write_linearity
unfolding head_text
returns-in_err-write_linearity g c =
    prints_cut (size_text c.args.n) c.from_residual-in_err-write_linearity.ensures.0
    (prints_then c.in_ok-write_title.ensures c.in_err-write_linearity.ensures)

pub returns : goal.returns
unfolding head_text
returns g c =
    prints_then (prints_then c.in_ok-write_title.ensures c.in_ok-write_linearity.ensures) c.write_size.ensures
