use Rattle.columns.specs.Cells.{CellPasses}
use Rattle.columns.specs.Steps.{IsNumerator}
use Rattle.columns.proofs.ColumnLemmas.{elsewhere_is}
use Rattle.columns.proofs.PassingLemmas.{answered, crosses_passes}
use Rattle.columns.proofs.wide_column.numerator.Goals as goal

pub returns : goal.returns
returns c =
    let old = c.args.old.now in
    let parts = c.args.parts.now in
    let j = c.args.column in
    let i = c.args.i in
    let r = c.requires in
    answered c.cross.result (CellPasses parts.x.now old i j) (λ n. IsNumerator old parts j i n) c.cross.ensures
    (λ fails.
    crosses_passes old parts parts.u r.parts j i r.row r.within r.other r.other_row c.at-e.result c.number_at.result
    c.at-b.result c.at-e.ensures c.number_at.ensures c.at-b.ensures fails)
    (λ n e.
    elsewhere_is old parts j r.other i r.other_row c.at-e.result c.number_at.result c.at-b.result n c.at-e.ensures
    c.number_at.ensures c.at-b.ensures e)
