use Rattle.poly_reader.proofs.ScalingLemmas.{row_scaled, row_wide, ok_weaker}
use Rattle.poly_reader.proofs.scaling.scaled_row.Goals as goal

pub returns-in-Some : goal.returns-in-Some
returns-in-Some c =
    ok_weaker _ _ c.entries.result (λ o h. row_scaled c.args.row.now c.max.result c.in-Some.q _ c.in-Some.ensures
    (rw c.common_numerator.ensures.value at c.max.ensures) h) c.entries.ensures

pub returns-in-None : goal.returns-in-None
returns-in-None c = row_wide c.args.row.now c.in-None.ensures
