use Rattle.std.specs.Fmt.{signed_decimal}
use Rattle.poly_io.proofs.Parts.{prints_cut, prints_then}
use Rattle.poly_model.specs.ListingText.{entry_text}
use Rattle.row_printer.proofs.vector.write_entry.Goals as goal

pub returns-in_err-write_all : goal.returns-in_err-write_all
unfolding entry_text
returns-in_err-write_all g c = prints_cut (signed_decimal c.args.y) c.from_residual.ensures.0 c.in_err-write_all.ensures

pub returns : goal.returns
unfolding entry_text
returns g c = prints_then c.in_ok-write_all.ensures c.write_num.ensures
