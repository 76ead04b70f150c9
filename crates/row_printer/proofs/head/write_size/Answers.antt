use Rattle.std.proofs.Common.{codes}
use Rattle.std.specs.Fmt.{decimal}
use Rattle.poly_io.proofs.Parts.{prints_cut, prints_part, prints_then}
use Rattle.poly_model.specs.ListingText.{size_text}
use Rattle.row_printer.proofs.head.write_size.Goals as goal

pub returns-in_err-write_all : goal.returns-in_err-write_all
unfolding size_text
returns-in_err-write_all g c =
    prints_cut (codes " rational\n") c.from_residual.ensures.0
    (prints_part (decimal c.args.n) c.in_err-write_all.ensures)

pub returns-in_err-write_count : goal.returns-in_err-write_count
unfolding size_text
returns-in_err-write_count g c =
    prints_cut (codes " rational\n") c.from_residual-in_err-write_count.ensures.0
    (prints_then c.in_ok-write_all.ensures c.in_err-write_count.ensures)

pub returns : goal.returns
unfolding size_text
returns g c =
    prints_then (prints_then c.in_ok-write_all.ensures c.in_ok-write_count.ensures) c.write_all-2.ensures
