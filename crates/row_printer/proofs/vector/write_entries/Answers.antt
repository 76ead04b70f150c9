use Rattle.std.proofs.Common.{arith}
use Rattle.poly_io.proofs.Parts.{owes_cut, owes_less, owes_none}
use Rattle.row_printer.proofs.ListingTextLemmas.{entries_text-next, entries_text-none}
use Rattle.row_printer.proofs.vector.write_entries.Goals as goal

pub returns-in_err-write_entry : goal.returns-in_err-write_entry
returns-in_err-write_entry g c =
    owes_cut _ c.loop-y.invariant (entries_text-next c.args.v.now c.loop-y.y-index _ (omega arith) c.y-item.is)
    c.from_residual.ensures.0 c.in_err-write_entry.ensures

pub loop-y-preserved : goal.loop-y-preserved
loop-y-preserved g c =
    owes_less c.loop-y.invariant (entries_text-next c.args.v.now c.loop-y.y-index _ (omega arith) c.y-item.is)
    c.in_ok-write_entry.ensures

pub returns : goal.returns
returns g c = owes_none _ c.loop-y.invariant (entries_text-none c.args.v.now c.loop-y.y-index (omega arith))
