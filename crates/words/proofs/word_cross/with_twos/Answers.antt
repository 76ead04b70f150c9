use Rattle.std.proofs.Common.{◌^◌, pos, arith}
use Rattle.std.specs.Int.{w64}
use Rattle.std.proofs.lemmas.Int.{wrapping_mul_is}
use Rattle.words.proofs.BitLemmas.{twos_fit}
use Rattle.words.proofs.word_cross.with_twos.Goals as goal

pub returns : goal.returns
returns c =
    wrapping_mul_is w64 c.args.odd (pos (2 ^ c.args.twos)) c.ranges.odd
    (twos_fit c.args.twos (omega (arith, c.requires)))
