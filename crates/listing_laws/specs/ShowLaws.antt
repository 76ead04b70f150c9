-- Laws of what is shown at a prefix that leaves one direction.
use Rattle.std.specs.Prelude.{◌↔◌, Bool, neg_ℤ, List, [], ◌∷◌, map}
use Rattle.poly_num.specs.Vectors.{Vector, IsPrimitive, IsMultipleOf}
use Rattle.listing_laws.specs.ListedCone.{ListedCone, IsListable}
use Rattle.listing_laws.specs.Lists.{Lists}
use Rattle.listing_laws.specs.Prefixes.{marked_labels, IsCornerUnder}
use Rattle.listing_laws.specs.Directions.{LeavesOne, PassesLocalTest, IsShownAlong}

-- the corners under the prefix are the shown primitive vectors along z in the cone, if the local test holds
abbrev pub UnderIsTested : Type 0
UnderIsTested = (cone : ListedCone) → IsListable cone → (marks : List Bool) (z : Vector) →
    (s : LeavesOne cone marks z) → (y : Vector) →
    IsCornerUnder cone marks y ↔ (IsShownAlong cone z y × PassesLocalTest cone (marked_labels marks) s.duals z)

-- if it fails, nothing is
abbrev pub NothingIfItFails : Type 0
NothingIfItFails = (cone : ListedCone) → IsListable cone → (marks : List Bool) (z : Vector) →
    (s : LeavesOne cone marks z) → (PassesLocalTest cone (marked_labels marks) s.duals z → ⊥) →
    Lists (IsCornerUnder cone marks) []

-- if it holds and a vector along z can be shown, that is all
abbrev pub OneIfItPasses : Type 0
OneIfItPasses = (cone : ListedCone) → IsListable cone → (marks : List Bool) (z : Vector) →
    (s : LeavesOne cone marks z) → PassesLocalTest cone (marked_labels marks) s.duals z →
    (y : Vector) → IsShownAlong cone z y → Lists (IsCornerUnder cone marks) (y ∷ [])

-- if neither of the two primitive vectors along z can be shown, nothing is
abbrev pub NothingIfNeither : Type 0
NothingIfNeither = (cone : ListedCone) → IsListable cone → (marks : List Bool) (z : Vector) →
    LeavesOne cone marks z → (y : Vector) → IsPrimitive y → IsMultipleOf z y →
    (IsShownAlong cone z y → ⊥) → (IsShownAlong cone z (map neg_ℤ y) → ⊥) → Lists (IsCornerUnder cone marks) []
