-- What the listing of a file comes to.
use Rattle.std.specs.Prelude.{◌≡◌, ◌%◌, ◌^◌, List, length}
use Rattle.poly_num.specs.Vectors.{Vector}
use Rattle.poly_model.specs.Extreme.{AreExtreme, IsFeasible}
use Rattle.poly_model.specs.FreeColumns.{AreLines}
use Rattle.poly_model.specs.Systems.{Polyhedron, cone_of}
use Rattle.row_printer.specs.Rows.{counted, sum_of_sizes}
use Rattle.convert_core.specs.declared.totals.Totals.{Totals}

-- p has a point: of a listing of it they are the numbers of rows and of lines, and the sum of the sizes of all entries of
-- the shown vectors, modulo 2^64
pub record AreTotals (p : Polyhedron) (totals : Totals) : Type 0 where
  pub feasible : IsFeasible (cone_of p)
  pub vectors : List Vector
  pub are_lines : AreLines (cone_of p) vectors
  pub shown : List Vector
  pub are_extreme : AreExtreme (cone_of p) shown
  pub rows : totals.rows ≡ counted 0 (length shown)
  pub lines : totals.lines ≡ length vectors
  pub sum : totals.sum ≡ sum_of_sizes shown % 2 ^ 64
