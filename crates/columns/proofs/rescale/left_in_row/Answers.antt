use Rattle.std.proofs.Common.{ℤ, subst}
use Rattle.poly_num.specs.Divisors.{IsGcdOf}
use Rattle.columns.proofs.ColumnLemmas.{row_left}
use Rattle.columns.proofs.rescale.left_in_row.Goals as goal

pub returns-else-eq : goal.returns-else-eq
returns-else-eq c =
    let n = c.word_numerator.result in
    let less = c.shrink.new.divisor in
    row_left c.args.cells.now c.args.parts.now c.args.column c.args.i c.args.divisor.now n less
    c.word-g.ensures.positive c.word_numerator.ensures
    (subst (λ (z : ℤ). IsGcdOf z n less) c.copied-less.ensures (c.shrink.ensures c.if-not-shrink.false))
