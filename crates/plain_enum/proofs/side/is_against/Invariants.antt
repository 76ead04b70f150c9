use Rattle.std.proofs.Common.{ℕ, ◌<◌, ◌≤◌, pos, ◌≤ℤ◌}
use Rattle.poly_model.specs.Dictionaries.{Table}
use Rattle.dictionary.specs.Views.{table_of}
use Rattle.plain_enum.proofs.side.is_against.Given as goal

-- no row up to row i is positive
abbrev pub invariant-rows : goal.invariant-rows
invariant-rows l = (k : ℕ) → 0 < k → k ≤ l.i → Table.entry (table_of l.dict) k l.fn.col ≤ℤ pos 0
