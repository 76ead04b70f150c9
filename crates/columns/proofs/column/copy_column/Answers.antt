use Rattle.std.proofs.Common.{refl, rules, arith, ◌<◌, ◌+◌, ◌*◌, length, sym, subst}
use Rattle.columns.specs.Sizes.{IsOf}
use Rattle.columns.proofs.ColumnLemmas.{column_more, written_more, kept_more, stays_is}
use Rattle.columns.proofs.column.copy_column.Goals as goal

pub cells-preserved : goal.cells-preserved
cells-preserved c =
    let parts = c.args.parts.now in
    let x = parts.x.now in
    let cells = c.args.cells.now in
    let j = c.args.column in
    let g = c.args.divisor.now in
    let e = c.at_place-e.result in
    let lt : j * x.height + c.cells.i < length c.cells.new = search rules in
    let there : j * x.height + c.cells.i < x.width * x.height = search rules in
    record {
      written =
          written_more cells parts j g c.cells.i c.cells.new e _ lt refl
          (stays_is cells parts j c.requires.inside.other g c.requires.nothing c.requires.same c.cells.i e
          c.at_place-e.ensures)
          c.cells.invariant.written;
      kept = kept_more _ c.args.new.now c.cells.new _ e (omega arith) c.cells.invariant.kept;
      size =
          column_more x j (λ _ z. IsOf parts.size z) c.cells.i c.cells.new e lt
          (subst (IsOf parts.size) (sym c.at_place-e.ensures) (c.requires.parts.cells_size _ there))
          c.cells.invariant.size;
    }
