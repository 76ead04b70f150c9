-- Which H files have a point.
use Rattle.std.specs.Prelude.{◌≡◌, ◌↔◌, pos, ◌<ℤ◌, length}
use Rattle.std.specs.List.{All}
use Rattle.poly_num.specs.Vectors.{Vector}
use Rattle.poly_model.specs.declared.kind.Kind.TheVariants.{H}
use Rattle.poly_model.specs.Systems.{Polyhedron, System, cone_of}
use Rattle.poly_model.specs.Cones.{at, IsTight}
use Rattle.poly_model.specs.Extreme.{IsExtreme, IsFeasible}

-- an extreme vector with a positive first entry
pub record HasVertex (sys : System) : Type 0 where
  pub vector : Vector
  pub extreme : IsExtreme sys vector
  pub positive : pos 0 <ℤ at 0 vector

-- a vector on which all rows are 0 has 0 as its first entry
abbrev pub IsFlatAtInfinity : System → Type 0
IsFlatAtInfinity sys = (z : Vector) → length z ≡ sys.n → All (IsTight z) sys.rows → at 0 z ≡ pos 0

-- an H file's system is feasible exactly where it has a vertex
abbrev pub FeasibleHasExtreme : Type 0
FeasibleHasExtreme = (sys : System) → sys.kind ≡ H → IsFlatAtInfinity sys → IsFeasible sys ↔ HasVertex sys

-- the cone of a polyhedron has the row at infinity among its rows, so it is flat there
abbrev pub FeasibleFileHasExtreme : Type 0
FeasibleFileHasExtreme = (p : Polyhedron) → p.kind ≡ H → IsFeasible (cone_of p) ↔ HasVertex (cone_of p)
