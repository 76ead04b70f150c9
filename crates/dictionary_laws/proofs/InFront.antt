-- Forms with 0 in front: what they are at a vector with any entry in front.
use Rattle.std.proofs.Common.{◌≡◌, List, [], ◌∷◌, ℤ, map, ◌∙◌, arith}
use Rattle.poly_num.specs.Vectors.{Vector, ◌·◌}
use Rattle.poly_num.proofs.Ring.{lin, zero_mul}
use Rattle.poly_model.specs.Independence.{Vanish}
use Rattle.poly_model.specs.Spaces.{in_front}

-- a form with 0 in front has the value of the form behind it
pub with_front : (g : Vector) (x : ℤ) (v : Vector) → in_front g · (x ∷ v) ≡ g · v
with_front g x v = omega (arith, lin, zero_mul x)

-- rows that are 0 behind the entry in front are 0
pub vanish_in_front : (gs : List Vector) (x : ℤ) (v : Vector) → Vanish gs v → Vanish (map in_front gs) (x ∷ v)
vanish_in_front [] x v h = tt
vanish_in_front (g ∷ gs) x v h = (with_front g x v ∙ h.0, vanish_in_front gs x v h.1)
