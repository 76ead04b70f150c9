-- Rows outside a cobasis by their places among the rows of cells.
use Rattle.std.specs.Prelude.{ℕ}
use Rattle.poly_model.specs.Tree.{IsRowOutside}
use Rattle.dictionary.specs.Positions.{StandsInRow}
use Rattle.dictionary.specs.Views.{Dictionary}

-- row r is outside the cobasis, and stands at the place
pub record IsRowAt (d : Dictionary) (place r : ℕ) : Type 0 where
  pub row : IsRowOutside d.labels d.key r
  pub place_is : StandsInRow d r place
