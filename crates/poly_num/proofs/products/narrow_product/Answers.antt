use Rattle.std.proofs.Common.{arith, FitsSigned}
use Rattle.std.specs.Int.{w64, w128}
use Rattle.std.proofs.lemmas.Int.{ints, to_z-of_z}
use Rattle.poly_num.proofs.SizeLemmas.{product_at_most, product_fits}
use Rattle.poly_num.proofs.products.narrow_product.Goals as goal

pub returns-clause-upper_bound : goal.returns-clause-upper_bound
returns-clause-upper_bound c =
    let a = c.args.a in let b = c.args.b in
    let fa : FitsSigned w64 a = c.ranges.a in let fb : FitsSigned w64 b = c.ranges.b in
    let ga : FitsSigned w128 a = omega (arith, ints) in let gb : FitsSigned w128 b = omega (arith, ints) in
    let h = product_fits a b fa fb in
    simp to_z-of_z (product_at_most a b fa fb)
