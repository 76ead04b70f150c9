-- How many steps lower a row where the rows ascend: their labels lie below those of the coordinates, so there are few
-- rows.
use Rattle.std.proofs.Common.{ℕ, ◌^◌, ◌≤◌, List, length, le_trans}
use Rattle.std.proofs.Math.Pow.{pow_mono}
use Rattle.std.proofs.lemmas.Bool.{ltb-true}
use Rattle.poly_model.specs.Keys.{IsAscending}
use Rattle.poly_model.specs.Labels.{coordinates_from}
use Rattle.poly_model.specs.LexOrder.{rows_in}
use Rattle.poly_model.specs.Spaces.{Space}
use Rattle.dictionary_laws.proofs.KeyExchange.{ascending_distinct}
use Rattle.dictionary_laws.proofs.Members.{few_below}
use Rattle.tree_laws.proofs.OrderLemmas.{row_only}
use Rattle.search_laws.specs.Lowering.{HasEnd}

pub few_rows : (space : Space) → IsAscending (rows_in space.labels) → length (rows_in space.labels) ≤ coordinates_from
few_rows space a =
    few_below coordinates_from (rows_in space.labels) (ascending_distinct (rows_in space.labels) a)
    (λ k c. ltb-true k coordinates_from (row_only space k c).1)

-- a counter that begins above 2 ^ coordinates_from outlasts the steps
pub few_steps : (space : Space) (root key : List ℕ) (q : ℕ) → IsAscending (rows_in space.labels) →
    (e : HasEnd space root q key) → e.steps ≤ 2 ^ coordinates_from
few_steps space root key q a e = le_trans e.few (pow_mono (few_rows space a))
