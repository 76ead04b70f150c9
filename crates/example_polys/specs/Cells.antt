-- Rows as they lie in a list of cells.
use Rattle.std.specs.Prelude.{List}
use Rattle.std.specs.List.{flat_map}
use Rattle.poly_num.specs.Vectors.{Vector}

-- the rows, one behind the other
abbrev pub end_to_end : List Vector → Vector
end_to_end rows = flat_map (λ row. row) rows
