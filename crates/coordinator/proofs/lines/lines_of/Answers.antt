use Rattle.std.proofs.Common.{length, ◌≤◌, List, sym, subst}
use Rattle.poly_num.specs.Vectors.{Vector}
use Rattle.poly_model.specs.Limits.{most_columns}
use Rattle.poly_model.specs.Systems.{cone_of}
use Rattle.search_laws.proofs.LineCounts.{few_lines}
use Rattle.coordinator.proofs.lines.lines_of.Goals as goal

pub returns-in-Ok-prepare-clause-few : goal.returns-in-Ok-prepare-clause-few
returns-in-Ok-prepare-clause-few c =
    let p = c.in-Ok-prepare.ensures.prepared c.args.poly.now c.in-Ok.ensures in
    subst (λ (lines : List Vector). length lines ≤ most_columns) (sym c.into_parts-lines.ensures.lines)
    (few_lines (cone_of c.args.poly.now) c.in-Ok-prepare.prepared.lines (record { columns = c.in-Ok-prepare.prepared.free; free = p.columns; each = p.are_lines }) p.narrow)
