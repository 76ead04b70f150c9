use Rattle.std.proofs.Common.{arith}
use Rattle.poly_io.proofs.Parts.{owes_cut, owes_less, owes_none}
use Rattle.row_printer.proofs.ListingTextLemmas.{numbers_text-next, numbers_text-none}
use Rattle.row_printer.proofs.head.write_numbers.Goals as goal

pub returns-in_err-write_number : goal.returns-in_err-write_number
returns-in_err-write_number g c =
    owes_cut _ c.loop-i.invariant (numbers_text-next c.loop-i.i c.args.count (omega arith)) c.from_residual.ensures.0
    c.in_err-write_number.ensures

pub loop-i-preserved : goal.loop-i-preserved
loop-i-preserved g c =
    owes_less c.loop-i.invariant (numbers_text-next c.loop-i.i c.args.count (omega arith)) c.in_ok-write_number.ensures

pub returns : goal.returns
returns g c = owes_none _ c.loop-i.invariant (numbers_text-none _ _ (omega arith))
