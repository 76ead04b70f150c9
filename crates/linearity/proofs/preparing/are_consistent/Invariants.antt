use Rattle.std.proofs.Common.{◌≡◌, ℕ, ◌<◌, ◌≤◌, pos, true}
use Rattle.std.specs.List.{Contains}
use Rattle.poly_model.specs.Systems.{row_of}
use Rattle.poly_model.specs.Dictionaries.{Table}
use Rattle.dictionary.specs.Views.{table_of}
use Rattle.linearity.proofs.preparing.are_consistent.Given as goal

-- the constants of the linear rows up to row i are 0
abbrev pub invariant-rows : goal.invariant-rows
invariant-rows l =
    (k : ℕ) → 0 < k → k ≤ l.i → Contains l.dict.labels k → (row_of l.sys.rows k).linear ≡ true →
    Table.constant (table_of l.dict) k ≡ pos 0
