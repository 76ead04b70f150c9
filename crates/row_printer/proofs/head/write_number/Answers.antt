use Rattle.std.specs.Fmt.{decimal}
use Rattle.poly_io.proofs.Parts.{prints_cut, prints_then}
use Rattle.poly_model.specs.ListingText.{number_text}
use Rattle.row_printer.proofs.head.write_number.Goals as goal

pub returns-in_err-write_all : goal.returns-in_err-write_all
unfolding number_text
returns-in_err-write_all g c = prints_cut (decimal c.args.n) c.from_residual.ensures.0 c.in_err-write_all.ensures

pub returns : goal.returns
unfolding number_text
returns g c = prints_then c.in_ok-write_all.ensures c.write_count.ensures
