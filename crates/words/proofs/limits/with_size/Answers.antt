use Rattle.std.proofs.Common.{◌≤◌, ℕ, subst, bit_or}
use Rattle.std.specs.Prelude.{FitsSigned}
use Rattle.std.specs.Int.{w64}
use Rattle.std.proofs.lemmas.Int.{to_z-of_z}
use Rattle.std.proofs.lemmas.Nat.{le_or_l, le_or_r}
use Rattle.words.proofs.limits.with_size.Goals as goal

pub returns-clause-before : goal.returns-clause-before
returns-clause-before c = le_or_l c.args.limit c.unsigned_abs.result

pub returns-clause-size : goal.returns-clause-size
returns-clause-size c =
    let fz : FitsSigned w64 c.args.z = c.ranges.z in
    let is = simp to_z-of_z at c.unsigned_abs.ensures.value in
    subst (λ (m : ℕ). m ≤ bit_or c.args.limit c.unsigned_abs.result) is (le_or_r c.args.limit c.unsigned_abs.result)
