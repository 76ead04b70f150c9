use Rattle.std.proofs.Common.{ℕ, ◌<◌, ◌≤◌, pos, ◌≤ℤ◌}
use Rattle.poly_model.specs.Dictionaries.{Table}
use Rattle.dictionary.specs.Views.{table_of}
use Rattle.plain_enum.proofs.side.is_along.Given as goal

-- no row up to row i is negative
abbrev pub invariant-rows : goal.invariant-rows
invariant-rows l = (k : ℕ) → 0 < k → k ≤ l.i → pos 0 ≤ℤ Table.entry (table_of l.dict) k l.fn.col
