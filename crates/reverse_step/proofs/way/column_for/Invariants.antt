use Rattle.std.proofs.Common.{◌≡◌, ℕ, ◌<◌, get_or, pos}
use Rattle.std.specs.List.{Contains}
use Rattle.poly_model.specs.Dictionaries.{Table}
use Rattle.dictionary.specs.Views.{table_of}
use Rattle.reverse_step.proofs.way.column_for.Given as goal

abbrev pub invariant-labels : goal.invariant-labels
invariant-labels l =
    (j : ℕ) → j < l.col-index → (Contains l.key (get_or l.labels j 0) → ⊥) →
    Table.entry (table_of l.dict) l.row (get_or l.labels j 0) ≡ pos 0
