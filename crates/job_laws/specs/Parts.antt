-- A run in parts: for a search that calls itself for the children of a key.
use Rattle.std.specs.Prelude.{◌≡◌, ℕ, ◌+◌, List, ◌++◌, length}
use Rattle.work_core.specs.Orders.{Met, Meets, keys_visited}

module _ (IsChildAt : List ℕ → ℕ → List ℕ → Type 0) (IsDeep : List ℕ → Type 0) (most : ℕ) where
  -- where n keys were visited, all this is met of these keys and what lies under them, and then m were visited; whatever
  -- waits behind them
  pub record IsPart (n : ℕ) (keys : List (List ℕ)) (met : List Met) (m : ℕ) : Type 0 where
    pub count : m ≡ n + length (keys_visited met)
    pub goes : (rest : List (List ℕ)) (more : List Met) → Meets IsChildAt IsDeep most m rest more →
        Meets IsChildAt IsDeep most n (keys ++ rest) (met ++ more)
