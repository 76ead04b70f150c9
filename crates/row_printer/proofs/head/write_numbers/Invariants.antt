use Rattle.std.proofs.Common.{◌+◌, ◌-◌}
use Rattle.poly_io.proofs.Parts.{Owes}
use Rattle.poly_model.specs.ListingText.{numbers_text}
use Rattle.row_printer.proofs.head.write_numbers.Given as goal

abbrev pub invariant-loop-i : goal.invariant-loop-i
invariant-loop-i g l =
    Owes g.S.Sink l.initial.out l.out (numbers_text 1 l.count) (numbers_text (l.i + 1) (l.count - l.i))
