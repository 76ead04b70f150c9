use Rattle.std.proofs.Common.{◌≡◌, ◌∷◌, take, length}
use Rattle.poly_model.specs.Labels.{constant_label}
use Rattle.convert_core.specs.Rows.{WritesShown}
use Rattle.convert_core.proofs.rows.show_columns.Given as goal

-- the rows of the constants and of the columns before this one
abbrev pub invariant-columns : goal.invariant-columns
invariant-columns g l = record {
  shows : WritesShown g.S.Sink.written g.S.Sink.faults l.fn.at.cone.now l.fn.at.order.now l.fn.at.dict.now
      (constant_label ∷ take l.col-index l.cobasis) l.fn.shown l.fn.out l.shown l.out;
  width : length l.vector ≡ length l.fn.vector;
}
