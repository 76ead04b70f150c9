use Rattle.std.proofs.Common.{◌≡◌, ◌≤◌, length, take, map}
use Rattle.hull_lift.specs.Facets.{primitive_column}
use Rattle.linearity.specs.Columns.{coordinates_in}
use Rattle.linearity.proofs.lines.lines_of.Given as goal

-- the vectors of the labels before this one, which are no more
abbrev pub invariant-labels : goal.invariant-labels
invariant-labels l =
    record {
      value : l.lines.items
          ≡ map (λ k. primitive_column l.dict k l.n) (coordinates_in (take l.label-index l.label-items));
      few : length l.lines.items ≤ l.label-index;
    }
