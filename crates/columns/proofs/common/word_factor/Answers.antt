use Rattle.std.proofs.Common.{rules, arith, ◌≡◌, ℕ, ℤ, sym, subst, ◌∙◌}
use Rattle.poly_num.specs.Divisors.{IsGcdOf}
use Rattle.columns.specs.Steps.{IsCommonFactor}
use Rattle.columns.proofs.CommonFactors.{factor_start, factor_column, factor_one, factor_row}
use Rattle.columns.proofs.common.word_factor.Goals as goal

pub rows-init : goal.rows-init
rows-init c =
    let x = c.args.x.now in
    let g = c.gcd.result in
    let is = subst (λ (z : ℤ). IsGcdOf x.denominator z g) (c.wide-v.ensures.value ∙ c.word_at.ensures)
    c.gcd.ensures.divisor in
    subst (λ (z : ℤ). IsCommonFactor x c.args.cells.now 0 0 z) (sym c.in_ok-common.ensures)
    (factor_start x c.args.cells.now g c.requires.denominator is)

pub returns-then-is_unit : goal.returns-then-is_unit
returns-then-is_unit c =
    let x = c.args.x.now in
    let cells = c.args.cells.now in
    factor_one x cells x.height x.width c.rows.i 0 (omega arith) (omega arith)
    (subst (λ (z : ℤ). IsCommonFactor x cells c.rows.i 0 z) (c.is_unit.ensures c.if-is_unit.true) c.rows.invariant)

pub rows-preserved : goal.rows-preserved
rows-preserved c =
    factor_column c.args.x.now c.args.cells.now c.rows.i 0 c.rows.common c.word_at-in-rows.result
    c.share.new.divisor (c.share.ensures c.if-not-share.false) c.rows.invariant c.word_at-in-rows.ensures

pub columns-preserved : goal.columns-preserved
columns-preserved c =
    let x = c.args.x.now in
    factor_row x c.args.cells.now x.height c.columns.j c.columns.common c.word_at-in-columns.result
    c.share-in-columns.new.divisor (c.share-in-columns.ensures c.if-not-share-2.false) c.columns.invariant c.word_at-in-columns.ensures

pub returns : goal.returns
returns c =
    let x = c.args.x.now in
    let all : c.columns.j ≡ x.width = search rules in
    subst (λ (n : ℕ). IsCommonFactor x c.args.cells.now x.height n c.wide.result) all
    (subst (λ (z : ℤ). IsCommonFactor x c.args.cells.now x.height c.columns.j z)
    (sym (c.wide.ensures.value ∙ c.word.ensures.value)) c.columns.invariant)
