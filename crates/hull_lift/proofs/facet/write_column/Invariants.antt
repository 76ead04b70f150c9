use Rattle.std.proofs.Common.{◌≡◌, length, take}
use Rattle.hull_lift.specs.Facets.{column_of}
use Rattle.hull_lift.proofs.facet.write_column.Given as goal

-- the coordinates before coordinate j are written
abbrev pub invariant-coordinates : goal.invariant-coordinates
invariant-coordinates l =
    record {
      width : length l.out ≡ length l.initial.out;
      written : take l.j l.out ≡ column_of l.dict l.col l.j;
    }
