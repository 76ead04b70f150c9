use Rattle.std.proofs.Common.{◌^◌, arith}
use Rattle.std.specs.Prelude.{FitsSigned}
use Rattle.std.specs.Int.{w32}
use Rattle.std.specs.Int.Signed.{shr_z}
use Rattle.std.proofs.lemmas.Int.{to_z-of_z}
use Rattle.words.proofs.BitLemmas.{exact_half_shift, half_shift_fits}
use Rattle.words.proofs.small.without_twos.Goals as goal

pub returns : goal.returns
returns c twos =
    let n = c.args.n in
    let k = c.args.twos in
    let fn : FitsSigned w32 n = c.ranges.n in
    let fq : FitsSigned w32 (shr_z n (2 ^ k)) = half_shift_fits n k fn in
    simp to_z-of_z (exact_half_shift n k (omega (arith, c.requires)) fn twos)
