-- A search has no more cobases than there are sets of rows.
use Rattle.std.proofs.Common.{◌≤◌, ℕ, ◌*◌, ◌^◌, List, length, subst, lit≤, le_trans, mul-le-mul_left}
use Rattle.std.proofs.Math.Pow.{pow_mono}
use Rattle.poly_model.specs.Keys.{IsAscending}
use Rattle.poly_model.specs.Labels.{coordinates_from}
use Rattle.poly_model.specs.LexOrder.{rows_in}
use Rattle.poly_model.specs.Spaces.{Space}
use Rattle.tree_laws.proofs.Numbers.{key_row}
use Rattle.tree_laws.proofs.Sublists.{ascending_parts, contains_ascending, length-ascending_parts}
use Rattle.search_laws.specs.Weights.{IsWeight}
use Rattle.search_laws.proofs.OnceLists.{no_longer}
use Rattle.search_laws.proofs.StepBounds.{few_rows}
use Rattle.countdown.specs.Digits.{enough}

pub few_keys : (space : Space) (root key : List ℕ) (w : ℕ) → IsAscending (rows_in space.labels) → IsWeight space root key w →
    2 * w ≤ enough
unfolding enough
few_keys space root key w up (ks, l, e) =
    let parts : length ks ≤ length (ascending_parts (rows_in space.labels)) =
    no_longer ks (ascending_parts (rows_in space.labels)) l.once
    (λ k c. let (t, f) = (l.only k c).0 in
    contains_ascending (rows_in space.labels) k f.dictionary.ascending (key_row space k t f.dictionary)) in
    let most : length ks ≤ 2 ^ coordinates_from =
    le_trans parts (le_trans (length-ascending_parts (rows_in space.labels)) (pow_mono (few_rows space up))) in
    let twice : 2 * length ks ≤ 2 * 2 ^ coordinates_from = mul-le-mul_left 2 most in
    subst (λ x. 2 * x ≤ 2 ^ 8194) e (le_trans twice (lit≤ tt))
