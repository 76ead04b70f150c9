use Rattle.std.proofs.Common.{◌≡◌, ℕ, pos, take}
use Rattle.std.specs.List.{Contains}
use Rattle.poly_model.specs.Labels.{IsCoordinate}
use Rattle.poly_model.specs.Dictionaries.{Table}
use Rattle.dictionary.specs.Views.{table_of}
use Rattle.linearity.proofs.eliminate.least_column.Given as goal

-- the row is 0 at the coordinates before this label
abbrev pub invariant-labels : goal.invariant-labels
invariant-labels l =
    record {
      none : (k : ℕ) → Contains (take l.label-index l.label-items) k → IsCoordinate k →
          Table.entry (table_of l.dict) l.row k ≡ pos 0;
    }
