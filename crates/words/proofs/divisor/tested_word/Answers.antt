use Rattle.std.proofs.Common.{◌≡◌, ◌∙◌, sym, ap, ℤ, ◌*ℤ◌, rules}
use Rattle.std.specs.Prelude.{FitsSigned}
use Rattle.std.specs.Int.{w64, w128}
use Rattle.std.proofs.lemmas.Int.{to_z-of_z}
use Rattle.words.proofs.BitLemmas.{wide_from_bits}
use Rattle.words.proofs.divisor.tested_word.Goals as goal

pub returns : goal.returns
returns c =
    let fq : FitsSigned w64 c.args.guess = c.ranges.guess in
    let fg : FitsSigned w64 c.args.divisor = c.ranges.divisor in
    let fn : FitsSigned w128 c.args.n = c.ranges.n in
    let fl : FitsSigned w128 c.full_product.result = search rules in
    let e = simp to_z-of_z at c.full_product.ensures in
    let h : c.in_ok-q.q ≡ c.args.guess = simp to_z-of_z at c.in_ok-q.ensures in
    let s : c.full_product.result ≡ c.args.n =
    wide_from_bits c.full_product.result c.args.n fl fn c.if-full_product-n.false in
    ap (λ (z : ℤ). z *ℤ c.args.divisor) h ∙ sym e ∙ s
