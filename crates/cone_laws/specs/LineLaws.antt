-- The lines of a system.
use Rattle.std.specs.Prelude.{◌≡◌, ℕ, neg_ℤ, map, length}
use Rattle.std.specs.List.{All}
use Rattle.poly_num.specs.Vectors.{Vector, IsZero}
use Rattle.poly_model.specs.Systems.{System}
use Rattle.poly_model.specs.Cones.{IsInCone, IsTight}
use Rattle.poly_model.specs.FreeColumns.{IsFree, IsZeroAtFree, IsLine, AreLines}
use Rattle.cone_laws.specs.Unique.{ExactlyOne}

-- each free column has exactly one line
abbrev pub EachFreeColumnHasOneLine : Type 0
EachFreeColumnHasOneLine = (sys : System) (j : ℕ) → IsFree sys j → ExactlyOne (IsLine sys j)

-- the lines of a system are exactly one list
abbrev pub LinesAreOneList : Type 0
LinesAreOneList = (sys : System) → ExactlyOne (AreLines sys)

-- a vector on which all rows are 0, and that is 0 at the free columns, is 0
abbrev pub OnlyLinesVanish : Type 0
OnlyLinesVanish = (sys : System) (y : Vector) → length y ≡ sys.n → All (IsTight y) sys.rows →
    IsZeroAtFree sys y → IsZero y

-- a vector that is in the cone with its opposite, and that is 0 at the free columns, is 0
abbrev pub OnlyZeroHasItsOpposite : Type 0
OnlyZeroHasItsOpposite = (sys : System) (y : Vector) → IsInCone sys y → IsInCone sys (map neg_ℤ y) →
    IsZeroAtFree sys y → IsZero y
