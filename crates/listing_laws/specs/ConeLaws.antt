-- Laws of the cone of a system.
use Rattle.std.specs.Prelude.{◌≡◌, ◌↔◌, Bool, true, pos, neg_ℤ, ◌<ℤ◌, List, [], map, ℕ}
use Rattle.std.specs.List.{All, Contains}
use Rattle.poly_num.specs.Vectors.{Vector, IsZero}
use Rattle.poly_model.specs.declared.kind.Kind.TheVariants.{H}
use Rattle.poly_model.specs.Independence.{IsFirstBasis, taken}
use Rattle.poly_model.specs.Systems.{Polyhedron, System, cone_of}
use Rattle.poly_model.specs.Cones.{at}
use Rattle.poly_model.specs.FreeColumns.{AreFreeColumns}
use Rattle.poly_model.specs.Extreme.{IsExtreme, IsFeasible, AreExtreme}
use Rattle.linear_laws.specs.Corners.{IsInConeOf}
use Rattle.cone_laws.specs.Faces.{fixed_rows}
use Rattle.cone_laws.specs.FeasibilityLaws.{IsFlatAtInfinity}
use Rattle.listing_laws.specs.ListedCone.{ListedCone, IsListable, IsShownCorner, IsConeOf, cone_over}
use Rattle.listing_laws.specs.Lists.{Lists}
use Rattle.listing_laws.specs.Prefixes.{IsCornerUnder}

-- the first basis of the fixed rows is a base
abbrev pub FirstBasisIsBase : Type 0
FirstBasisIsBase = (sys : System) (columns : List ℕ) (marks : List Bool) → AreFreeColumns sys columns →
    IsFirstBasis sys.n [] (fixed_rows columns sys) marks →
    IsConeOf sys (cone_over (taken [] (fixed_rows columns sys) marks) sys)

-- where no column is free and no row linear, nothing is
abbrev pub NothingIsBase : Type 0
NothingIsBase = (sys : System) → AreFreeColumns sys [] → All (λ row. row.linear ≡ true → ⊥) sys.rows →
    IsConeOf sys (cone_over [] sys)

-- the cone of a system has an independent base and holds no line
abbrev pub ConeIsListable : Type 0
ConeIsListable = (sys : System) (cone : ListedCone) → IsConeOf sys cone → IsListable cone

-- the extreme vectors of the system are the shown corners of its cone
abbrev pub ExtremeIsShownCorner : Type 0
ExtremeIsShownCorner = (sys : System) (cone : ListedCone) → IsConeOf sys cone →
    (y : Vector) → IsExtreme sys y ↔ IsShownCorner cone y

-- what is under the empty prefix, each once, is the listing
abbrev pub WholeListing : Type 0
WholeListing = (sys : System) (cone : ListedCone) → IsConeOf sys cone →
    (shown : List Vector) → Lists (IsCornerUnder cone []) shown → AreExtreme sys shown

-- a vector that is in the cone with its opposite is zero
abbrev pub ListableConesArePointed : Type 0
ListableConesArePointed = (cone : ListedCone) → IsListable cone → (y : Vector) →
    IsInConeOf cone.n cone.base cone.rows y → IsInConeOf cone.n cone.base cone.rows (map neg_ℤ y) → IsZero y

-- a shown corner with a positive first entry
pub record HasShownVertex (cone : ListedCone) : Type 0 where
  pub vector : Vector
  pub corner : IsShownCorner cone vector
  pub positive : pos 0 <ℤ at 0 vector

-- the system of an H file is feasible exactly where its cone has a vertex
abbrev pub FeasibleByCorners : Type 0
FeasibleByCorners = (sys : System) → sys.kind ≡ H → IsFlatAtInfinity sys →
    (cone : ListedCone) → IsConeOf sys cone → IsFeasible sys ↔ HasShownVertex cone

-- a listed vector with a positive first entry
pub record HasListedVertex (shown : List Vector) : Type 0 where
  pub vector : Vector
  pub listed : Contains shown vector
  pub positive : pos 0 <ℤ at 0 vector

-- the same by its listing
abbrev pub FeasibleByListing : Type 0
FeasibleByListing = (sys : System) → sys.kind ≡ H → IsFlatAtInfinity sys →
    (shown : List Vector) → AreExtreme sys shown → IsFeasible sys ↔ HasListedVertex shown

-- and of the cone of a polyhedron, which has the row at infinity
abbrev pub FeasibleFileByListing : Type 0
FeasibleFileByListing = (p : Polyhedron) → p.kind ≡ H →
    (shown : List Vector) → AreExtreme (cone_of p) shown → IsFeasible (cone_of p) ↔ HasListedVertex shown
