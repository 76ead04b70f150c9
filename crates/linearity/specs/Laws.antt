-- What is known once all rows have been tried.
use Rattle.std.specs.Prelude.{◌+◌, length}
use Rattle.poly_model.specs.Keys.{IsAscending}
use Rattle.poly_model.specs.Systems.{Polyhedron, cone_of}
use Rattle.poly_model.specs.FreeColumns.{AreFreeColumns, AreLinesOf}
use Rattle.dictionary.specs.Views.{Dictionary}
use Rattle.linearity.specs.declared.eliminate.Pass.TheVariants.{Others}
use Rattle.linearity.specs.Columns.{columns_in, coordinate_vectors}
use Rattle.linearity.specs.Elimination.{IsDictionaryOf, IsEliminated}

-- the coordinates that are left are the free columns, and the vectors of their columns are the lines
pub record LeavesLines (p : Polyhedron) (d : Dictionary) : Type 0 where
  pub free : AreFreeColumns (cone_of p) (columns_in d.key)
  pub lines : AreLinesOf (cone_of p) (columns_in d.key) (coordinate_vectors d p.n)

-- of every dictionary whose key ascends
abbrev pub EliminationLeavesLines : Type 0
EliminationLeavesLines = (p : Polyhedron) (d : Dictionary) → IsDictionaryOf p d → IsAscending d.key →
    IsEliminated (cone_of p).rows Others (length (cone_of p).rows + 1) d → LeavesLines p d
