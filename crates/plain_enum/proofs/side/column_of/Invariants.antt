use Rattle.std.proofs.Common.{◌≡◌, ℕ, false, pos, take, IsNone, IfSome}
use Rattle.std.specs.List.{Contains}
use Rattle.poly_model.specs.Labels.{IsCoordinate, coordinate_index}
use Rattle.poly_model.specs.Dictionaries.{Table}
use Rattle.poly_model.specs.Spaces.{is_member}
use Rattle.dictionary.specs.Views.{table_of, CanPivot}
use Rattle.plain_enum.specs.Columns.{IsColumnOf}
use Rattle.plain_enum.proofs.side.column_of.Given as goal

-- what is found is a column of the row, and where nothing is, it is 0 at the coordinates before this label that are
-- not free
abbrev pub invariant-labels : goal.invariant-labels
invariant-labels l =
    record {
      some : IfSome l.found (λ k. IsColumnOf l.dict l.free l.row k);
      pivots : IfSome l.found (λ k. CanPivot l.dict l.row k);
      none : IsNone l.found → (k : ℕ) → Contains (take l.label-index l.label-items) k → IsCoordinate k →
          is_member (coordinate_index k) l.free ≡ false → Table.entry (table_of l.dict) l.row k ≡ pos 0;
    }
