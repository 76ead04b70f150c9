use Rattle.std.proofs.Common.{◌∙◌, ap, rules, ℤ, ◌*ℤ◌}
use Rattle.std.specs.Prelude.{FitsSigned}
use Rattle.std.specs.Int.{w64}
use Rattle.std.specs.Ordering.{int_cmp}
use Rattle.std.proofs.lemmas.Int.{to_z-of_z}
use Rattle.lex_pivot.proofs.SignLemmas.{over_positive}
use Rattle.lex_pivot.proofs.word_reading.sum_order.Goals as goal

pub returns : goal.returns
returns c =
    let a : FitsSigned w64 c.args.a = c.ranges.a in
    let p : FitsSigned w64 c.args.p = c.ranges.p in
    let b : FitsSigned w64 c.args.b = c.ranges.b in
    let f : FitsSigned w64 c.args.f = c.ranges.f in
    let t : FitsSigned w64 c.negated.result = search rules in
    let e = simp to_z-of_z at c.cmp_products.ensures in
    let g = simp to_z-of_z at c.negated.ensures in
    e ∙ ap (λ (x : ℤ). int_cmp (c.args.a *ℤ c.args.p) (x *ℤ c.args.f)) g
    ∙ over_positive c.args.a c.args.b c.args.p c.args.f
