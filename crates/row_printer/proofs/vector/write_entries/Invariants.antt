use Rattle.std.proofs.Common.{drop}
use Rattle.poly_io.proofs.Parts.{Owes}
use Rattle.poly_model.specs.ListingText.{entries_text}
use Rattle.row_printer.proofs.vector.write_entries.Given as goal

abbrev pub invariant-loop-y : goal.invariant-loop-y
invariant-loop-y g l = Owes g.S.Sink l.initial.out l.out (entries_text l.v) (entries_text (drop l.y-index l.v))
