-- Which way the direction that is left is shown, and its vector.
use Rattle.std.specs.Prelude.{ℕ, neg_ℤ, map, length}
use Rattle.poly_num.specs.Vectors.{Vector}
use Rattle.poly_model.specs.Systems.{System}
use Rattle.dictionary.specs.Views.{Dictionary}
use Rattle.hull_lift.specs.Facets.{IsShownColumn}
use Rattle.plain_enum.specs.declared.side.Side.{Side}
use Rattle.plain_enum.specs.declared.side.Side.TheVariants.{Along, Against}
use Rattle.plain_enum.specs.Columns.{IsOnSide, IsFirst}

-- the column is shown on this side: the cone lies there, the rows of the cobasis that are not linear are the first
-- list, and the column is one that is shown
pub record IsShownOn (sys : System) (d : Dictionary) (col : ℕ) (side : Side) : Type 0 where
  pub on_side : IsOnSide d (length sys.rows) col side
  pub first : IsFirst sys.rows d (length sys.rows) col
  pub shown : IsShownColumn sys d col

-- a vector, or its opposite
abbrev pub vector_on : Side → Vector → Vector
vector_on Along v = v
vector_on Against v = map neg_ℤ v
