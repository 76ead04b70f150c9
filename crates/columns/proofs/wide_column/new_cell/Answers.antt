use Rattle.std.proofs.Common.{◌≡◌, ◌∙◌, ◌*ℤ◌, ℤ, subst, sym, ap}
use Rattle.std.specs.Prelude.{int_div}
use Rattle.columns.specs.Steps.{IsNumerator}
use Rattle.columns.proofs.DivisorLemmas.{quotient_exact}
use Rattle.columns.proofs.wide_column.new_cell.Goals as goal

pub returns : goal.returns
returns c =
    let g = c.args.scale.now.divisor in
    let n = c.in_ok-n.n in
    let divides = c.requires.divides c.args.i c.requires.row c.if-i-parts.false n c.in_ok-n.ensures in
    let exact : c.quotient.result *ℤ g ≡ n =
    ap (λ (z : ℤ). z *ℤ g) (c.quotient.ensures ∙ ap (λ (d : ℤ). int_div n d) c.number.ensures.value)
    ∙ quotient_exact g n c.requires.scale.positive divides in
    subst (λ (z : ℤ). IsNumerator c.args.old.now c.args.parts.now c.args.column c.args.i z) (sym exact) c.in_ok-n.ensures
