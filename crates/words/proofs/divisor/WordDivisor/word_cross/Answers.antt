use Rattle.std.proofs.Common.{◌≡◌, ◌<◌, ◌^◌, ◌*ℤ◌, pos, rules, ◌∙◌, sym}
use Rattle.std.specs.Prelude.{FitsSigned}
use Rattle.std.specs.Int.{w64, int_wrap}
use Rattle.std.specs.Int.Signed.{shr_z}
use Rattle.std.proofs.lemmas.Int.{to_z-of_z}
use Rattle.words.proofs.BitLemmas.{shift_fits, word_from_bits}
use Rattle.words.proofs.divisor.WordDivisor.word_cross.Goals as goal

pub invariant_of-result : goal.invariant_of-result
invariant_of-result c =
    let d = c.self.inside.value in
    let twos = c.self.inside.twos in
    let p = c.p.inside.value in
    let b = c.b.inside.value in
    let odd = shr_z d (2 ^ twos) in
    let fd : FitsSigned w64 d = search rules in
    let fp : FitsSigned w64 p = search rules in
    let fb : FitsSigned w64 b = search rules in
    let fo : FitsSigned w64 odd = shift_fits d twos fd in
    let tp : FitsSigned w64 c.low_product-times_p.result = search rules in
    let tb : FitsSigned w64 c.low_product-times_b.result = search rules in
    let gp : FitsSigned w64 c.low_product.result = search rules in
    let gb : FitsSigned w64 c.low_product-else-low_product-p.result = search rules in
    let gd : FitsSigned w64 c.with_twos.result = search rules in
    let whole : int_wrap w64 (odd *ℤ pos (2 ^ twos)) ≡ d =
    simp to_z-of_z at (sym c.with_twos.ensures ∙ word_from_bits c.with_twos.result d gd fd c.if-with_twos-self.false) in
    let over_p : int_wrap w64 (odd *ℤ c.low_product-times_p.result) ≡ p =
    simp to_z-of_z at (sym c.low_product.ensures ∙ word_from_bits c.low_product.result p gp fp c.if-low_product-p.false) in
    let over_b : int_wrap w64 (odd *ℤ c.low_product-times_b.result) ≡ b =
    simp to_z-of_z at (sym c.low_product-else-low_product-p.ensures ∙ word_from_bits c.low_product-else-low_product-p.result b gb fb c.if-low_product-b.false) in
    let few : twos < 31 = c.if-twos-ge31.false in
    simp to_z-of_z (
      record { few = few; whole = whole; over_p = over_p; over_b = over_b },
      simp to_z-of_z at (c.is_in_word.ensures c.if-not-is_in_word.false),
    )
