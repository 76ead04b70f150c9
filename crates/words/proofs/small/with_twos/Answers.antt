use Rattle.std.proofs.Common.{◌^◌, pos}
use Rattle.std.specs.Int.{w32}
use Rattle.std.proofs.lemmas.Int.{wrapping_mul_is}
use Rattle.words.proofs.BitLemmas.{twos_fit_half}
use Rattle.words.proofs.small.with_twos.Goals as goal

pub returns : goal.returns
returns c = wrapping_mul_is w32 c.args.odd (pos (2 ^ c.args.twos)) c.ranges.odd (twos_fit_half c.args.twos c.requires)
