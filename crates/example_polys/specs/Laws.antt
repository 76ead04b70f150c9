-- What is known of the examples.
use Rattle.std.specs.Prelude.{ℕ}
use Rattle.poly_model.specs.Extreme.{IsFeasible}
use Rattle.poly_model.specs.Systems.{cone_of}
use Rattle.example_polys.specs.declared.kind.ExampleKind.{ExampleKind}
use Rattle.example_polys.specs.Examples.{example_of}

-- each has a point
abbrev pub HavePoints : Type 0
HavePoints = (kind : ExampleKind) (n : ℕ) → IsFeasible (cone_of (example_of kind n))
