use Rattle.std.proofs.Common.{◌≡◌, ◌%◌, ◌^◌, ℕ, subst}
use Rattle.std.specs.Prelude.{FitsSigned}
use Rattle.std.specs.Int.{w64}
use Rattle.std.proofs.lemmas.Int.{to_z-of_z}
use Rattle.words.proofs.BitLemmas.{twos_of_first, twos_of_second}
use Rattle.words.proofs.word_cross.with_bits.Goals as goal

pub returns-clause-before : goal.returns-clause-before
returns-clause-before c k e = twos_of_first c.args.low c.cast_unsigned.result k e

pub returns-clause-bits : goal.returns-clause-bits
returns-clause-bits c k e =
    let fn : FitsSigned w64 c.args.n = c.ranges.n in
    let is = simp to_z-of_z at c.cast_unsigned.ensures in
    subst (λ (m : ℕ). m % 2 ^ k ≡ 0) is (twos_of_second c.args.low c.cast_unsigned.result k e)
