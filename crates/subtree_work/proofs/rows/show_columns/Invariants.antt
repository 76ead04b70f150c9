use Rattle.std.proofs.Common.{◌≡◌, ◌≤◌, ◌+◌, ◌∷◌, take, length}
use Rattle.poly_model.specs.Labels.{constant_label}
use Rattle.subtree_work.specs.Rows.{ShowsRows}
use Rattle.subtree_work.proofs.rows.show_columns.Given as goal

-- the rows of the constants and of the columns before this one
abbrev pub invariant-columns : goal.invariant-columns
invariant-columns g l = record {
  shows : ShowsRows l.fn.at.cone.now l.fn.at.order.now l.fn.at.dict.now (constant_label ∷ take l.col-index l.cobasis)
      (g.S.Sink.written l.fn.out) (g.S.Sink.written l.out) l.fn.count l.count;
  width : length l.vector ≡ length l.fn.vector;
  same : g.S.Sink.faults l.out ≡ g.S.Sink.faults l.fn.out;
  few : l.count.rows ≤ l.fn.count.rows + l.col-index + 1;
}
