use Rattle.std.proofs.Common.{◌≡◌, pos, ◌^◌, ℤ, ◌*ℤ◌, ◌-ℤ◌, rules}
use Rattle.std.specs.Prelude.{FitsSigned}
use Rattle.std.specs.Int.{w32, int_wrap}
use Rattle.std.proofs.lemmas.Int.{to_z-of_z}
use Rattle.words.specs.Small.{IsSmall}
use Rattle.words.proofs.CrossLemmas.{cross_quotient}
use Rattle.words.proofs.SmallLemmas.{small_product, small_cross}
use Rattle.words.proofs.small.SmallCross.taken.Goals as goal

pub returns : goal.returns
returns c twos small =
    let s = c.self.inside in
    let a : ℤ = c.args.a in
    let k : ℤ = c.args.c in
    let fa : FitsSigned w32 a = c.ranges.a in
    let fk : FitsSigned w32 k = c.ranges.c in
    let fn : FitsSigned w32 c.low_difference-multiple.result = search rules in
    let fq : FitsSigned w32 c.without_twos.result = search rules in
    let fp : FitsSigned w32 c.low_product.result = search rules in
    let fb : FitsSigned w32 c.low_product-2.result = search rules in
    let tp : FitsSigned w32 s.times_p = search rules in
    let tb : FitsSigned w32 s.times_b = search rules in
    let n = c.low_difference-multiple.result in
    let q = c.without_twos.result in
    let bits = simp to_z-of_z at twos in
    let hq : IsSmall q = simp to_z-of_z at small in
    let view = c.self.view_is in
    let same : c.args.self.now.twos ≡ s.twos = search rules in
    let exact : q *ℤ pos (2 ^ s.twos) ≡ n = search (rules, to_z-of_z, c.without_twos.ensures) in
    let first : c.low_product.result ≡ int_wrap w32 (a *ℤ s.times_p) = simp to_z-of_z at c.low_product.ensures in
    let second : c.low_product-2.result ≡ int_wrap w32 (k *ℤ s.times_b) = simp to_z-of_z at c.low_product-2.ensures in
    let is : n ≡ int_wrap w32 (c.low_product.result -ℤ c.low_product-2.result) =
    simp to_z-of_z at c.low_difference-multiple.ensures in
    let i = c.self.invariant.0 in
    let f = c.self.invariant.1 in
    rw (← c.self.view_is)
    (simp to_z-of_z
    (cross_quotient w32 s.p s.b s.divisor s.odd (pos (2 ^ s.twos)) s.times_p s.times_b a k n q i.whole i.over_p i.over_b
    (rw (← first, ← second) is) exact (small_product q s.divisor hq f.of_divisor)
    (small_cross a s.p k s.b c.requires.a f.of_p c.requires.c f.of_b)))
