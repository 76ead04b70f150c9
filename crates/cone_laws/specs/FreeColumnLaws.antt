-- The free columns of a system.
use Rattle.poly_model.specs.Systems.{System}
use Rattle.poly_model.specs.FreeColumns.{AreFreeColumns}
use Rattle.cone_laws.specs.Unique.{ExactlyOne}

-- exactly one ascending list has the free columns of a system as its members
abbrev pub SystemHasFreeColumns : Type 0
SystemHasFreeColumns = (sys : System) → ExactlyOne (AreFreeColumns sys)
