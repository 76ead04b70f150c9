use Rattle.std.proofs.Common.{ℤ, subst}
use Rattle.poly_num.specs.Divisors.{IsGcdOf}
use Rattle.columns.proofs.CommonFactors.{factor_start, factor_column, factor_row}
use Rattle.columns.proofs.common.wide_factor.Goals as goal

pub rows-init : goal.rows-init
rows-init c =
    let x = c.args.x.now in
    let g = c.gcd-common.result in
    factor_start x c.args.cells.now g c.requires.denominator
    (subst (λ (z : ℤ). IsGcdOf x.denominator z g) (c.at-v.ensures)
    c.gcd-common.ensures.divisor)

pub rows-preserved : goal.rows-preserved
rows-preserved c =
    factor_column c.args.x.now c.args.cells.now c.rows.i 0 c.rows.common c.at-c.result c.common_with-common.result
    c.common_with-common.ensures c.rows.invariant (c.at-c.ensures)

pub columns-preserved : goal.columns-preserved
columns-preserved c =
    let x = c.args.x.now in
    factor_row x c.args.cells.now x.height c.columns.j c.columns.common c.at-c-in-columns.result
    c.common_with-common-in-columns.result c.common_with-common-in-columns.ensures c.columns.invariant
    (c.at-c-in-columns.ensures)
