use Rattle.std.proofs.Common.{drop}
use Rattle.poly_io.proofs.Parts.{Owes}
use Rattle.poly_model.specs.LabelText.{labels_text}
use Rattle.row_printer.proofs.labels.write_labels.Given as goal

abbrev pub invariant-loop-label : goal.invariant-loop-label
invariant-loop-label g l =
    Owes g.S.Sink l.initial.out l.out (labels_text l.labels) (labels_text (drop l.label-index l.labels))
