use Rattle.std.proofs.Common.{subst, sym, ℤ}
use Prim.Native.Nat.{◌∣◌}
use Rattle.std.specs.Prelude.{unsigned_abs}
use Rattle.columns.proofs.common.factors_of.Goals as goal

pub signed_over-p-requires-clause-divides : goal.signed_over-p-requires-clause-divides
signed_over-p-requires-clause-divides c =
    subst (λ (z : ℤ). unsigned_abs c.common_factor-common.result ∣ unsigned_abs z) (sym c.at-pivot.ensures)
    (c.common_factor-common.ensures.in_row c.args.x.now.column c.requires.column)
