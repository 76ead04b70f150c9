use Rattle.std.proofs.Common.{◌^◌, arith}
use Rattle.std.specs.Prelude.{FitsSigned}
use Rattle.std.specs.Int.{w64}
use Rattle.std.specs.Int.Signed.{shr_z}
use Rattle.std.proofs.lemmas.Int.{to_z-of_z}
use Rattle.words.proofs.BitLemmas.{exact_shift, shift_fits}
use Rattle.words.proofs.word_cross.without_twos.Goals as goal

pub returns : goal.returns
returns c twos =
    let n = c.args.n in
    let k = c.args.twos in
    let fn : FitsSigned w64 n = c.ranges.n in
    let fq : FitsSigned w64 (shr_z n (2 ^ k)) = shift_fits n k fn in
    simp to_z-of_z (exact_shift n k (omega (arith, c.requires)) fn twos)
