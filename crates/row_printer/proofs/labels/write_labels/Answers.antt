use Rattle.std.proofs.Common.{arith}
use Rattle.poly_io.proofs.Parts.{owes_cut, owes_less, owes_none}
use Rattle.row_printer.proofs.LabelLemmas.{labels_less, labels_none}
use Rattle.row_printer.proofs.labels.write_labels.Goals as goal

pub returns-in_err-write_next_label : goal.returns-in_err-write_next_label
returns-in_err-write_next_label g c =
    owes_cut _ c.loop-label.invariant
    (labels_less c.args.labels.now c.loop-label.label-index _ (omega arith) c.label-item.is)
    c.from_residual.ensures.0 c.in_err-write_next_label.ensures

pub loop-label-preserved : goal.loop-label-preserved
loop-label-preserved g c =
    owes_less c.loop-label.invariant
    (labels_less c.args.labels.now c.loop-label.label-index _ (omega arith) c.label-item.is)
    c.in_ok-write_next_label.ensures

pub returns : goal.returns
returns g c =
    owes_none _ c.loop-label.invariant (labels_none c.args.labels.now c.loop-label.label-index (omega arith))
