use Rattle.std.proofs.Common.{◌*◌, ℕ, subst}
use Rattle.columns.specs.Steps.{IsColumnWritten}
use Rattle.columns.proofs.ColumnLemmas.{kept_twice}
use Rattle.columns.proofs.wide_column.quotients_of_column.Goals as goal

pub returns-then-exact_column-parts-clause-written : goal.returns-then-exact_column-parts-clause-written
returns-then-exact_column-parts-clause-written c =
    let parts = c.args.parts.now in
    subst
    (λ (n : ℕ). IsColumnWritten c.args.old.now parts c.args.column n c.args.scale.now.divisor c.exact_column.new.new)
    c.if-exact_column-parts.true c.exact_column.ensures.written

pub returns-clause-kept : goal.returns-clause-kept
returns-clause-kept c =
    kept_twice (c.args.column * c.args.parts.now.x.now.height) c.args.new.now c.exact_column.new.new
    c.divided_column.new.new c.exact_column.ensures.kept c.divided_column.ensures.kept
