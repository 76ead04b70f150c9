-- Lists without repeats whose members are told, and how one is made piece by piece.
use Rattle.std.specs.Prelude.{◌↔◌, List, ◌∷◌, ◌++◌}
use Rattle.std.specs.List.{Contains}
use Rattle.poly_num.specs.Vectors.{Vector}
use Rattle.linear_laws.specs.Distinct.{AreDistinct}

-- the members of xs are exactly the vectors with P, each once
pub record Lists (P : Vector → Type 0) (xs : List Vector) : Type 0 where
  pub distinct : AreDistinct xs
  pub members : (y : Vector) → Contains xs y ↔ P y

-- what is still to be listed are the vectors with Q: any list of them completes xs to one of those with P
abbrev pub Goes : (Vector → Type 0) → (Vector → Type 0) → List Vector → Type 0
Goes P Q xs = (ys : List Vector) → Lists Q ys → Lists P (xs ++ ys)

-- xs is the beginning of a list of the vectors with P
abbrev pub Begins : (Vector → Type 0) → List Vector → Type 0
Begins P xs = (ys : List Vector) × Lists P (xs ++ ys)
