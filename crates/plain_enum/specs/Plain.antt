-- Where a number passes in the plain listing.
use Rattle.std.specs.Prelude.{◌≡◌}
use Rattle.poly_model.specs.declared.overflow.Overflow.{Overflow}
use Rattle.poly_model.specs.declared.overflow.Phase.TheVariants.{Cone}
use Rattle.poly_model.specs.Systems.{Polyhedron}
use Rattle.poly_model.specs.Overflows.{Passes}

-- a product that a pivot needs passes, at a dictionary of the whole cone
pub record PassesInCone (p : Polyhedron) (o : Overflow) : Type 0 where
  pub phase : o.phase ≡ Cone
  pub passes : Passes p o
