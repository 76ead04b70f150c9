use Rattle.std.proofs.Common.{◌≡◌, ◌*◌, ◌<◌, ◌≤◌, pos, ◌^◌, ℤ, ◌*ℤ◌, ◌-ℤ◌, rules}
use Rattle.std.specs.Prelude.{FitsSigned, unsigned_abs}
use Rattle.std.specs.Int.{w64, int_wrap}
use Rattle.std.proofs.lemmas.Int.{to_z-of_z}
use Rattle.words.proofs.CrossLemmas.{cross_quotient}
use Rattle.words.proofs.LimitLemmas.{product_fits, cross_fits}
use Rattle.words.proofs.word_cross.WordCross.taken.Goals as goal

pub returns : goal.returns
returns c twos within =
    let s = c.self.inside in
    let a : ℤ = c.args.a in
    let k : ℤ = c.args.c in
    let fa : FitsSigned w64 a = c.ranges.a in
    let fk : FitsSigned w64 k = c.ranges.c in
    let fn : FitsSigned w64 c.low_difference-multiple.result = search rules in
    let fq : FitsSigned w64 c.without_twos.result = search rules in
    let fp : FitsSigned w64 c.low_product.result = search rules in
    let fb : FitsSigned w64 c.low_product-2.result = search rules in
    let tp : FitsSigned w64 s.times_p = search rules in
    let tb : FitsSigned w64 s.times_b = search rules in
    let n = c.low_difference-multiple.result in
    let q = c.without_twos.result in
    let bits = simp to_z-of_z at twos in
    let view = c.self.view_is in
    let same : c.args.self.now.cross.twos ≡ s.twos = search rules in
    let by : c.args.self.now.cross.divisor ≡ s.divisor = search rules in
    let of_a : c.args.self.now.of_a ≡ s.limits.a = search rules in
    let of_c : c.args.self.now.of_c ≡ s.limits.c = search rules in
    let small = simp to_z-of_z at within in
    let hq : unsigned_abs q * unsigned_abs s.divisor < 2 ^ 63 = rw (← by) small in
    let la : unsigned_abs a ≤ s.limits.a = rw (← of_a) c.requires.a in
    let lc : unsigned_abs k ≤ s.limits.c = rw (← of_c) c.requires.c in
    let exact : q *ℤ pos (2 ^ s.twos) ≡ n = search (rules, to_z-of_z, c.without_twos.ensures) in
    let first : c.low_product.result ≡ int_wrap w64 (a *ℤ s.times_p) = simp to_z-of_z at c.low_product.ensures in
    let second : c.low_product-2.result ≡ int_wrap w64 (k *ℤ s.times_b) = simp to_z-of_z at c.low_product-2.ensures in
    let is : n ≡ int_wrap w64 (c.low_product.result -ℤ c.low_product-2.result) =
    simp to_z-of_z at c.low_difference-multiple.ensures in
    let i = c.self.invariant.0 in
    rw (← c.self.view_is)
    (simp to_z-of_z
    (cross_quotient w64 s.p s.b s.divisor s.odd (pos (2 ^ s.twos)) s.times_p s.times_b a k n q i.whole i.over_p i.over_b
    (rw (← first, ← second) is) exact (product_fits q s.divisor hq)
    (cross_fits a s.p k s.b s.limits.a s.limits.c la lc c.self.invariant.1)))
