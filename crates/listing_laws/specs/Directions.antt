-- What a dictionary tells at a prefix that leaves one direction: a vector for the direction and one for each row
-- taken; and the local test by the values of the rows at these vectors.
use Rattle.std.specs.Prelude.{◌≡◌, ◌≢◌, ℕ, ◌+◌, ◌<◌, ◌≤◌, Bool, true, pos, List, length}
use Rattle.std.specs.List.{Contains}
use Rattle.poly_num.specs.Vectors.{Vector, ◌·◌, IsZero, IsPrimitive, IsMultipleOf}
use Rattle.poly_model.specs.Independence.{Vanish}
use Rattle.linear_laws.specs.Corners.{IsInConeOf}
use Rattle.listing_laws.specs.ListedCone.{ListedCone, row_at}
use Rattle.listing_laws.specs.Prefixes.{marked_labels}

-- a vector at which row k is not 0, and the base and the rows of the other labels are
pub record DualVector (cone : ListedCone) (labels : List ℕ) (k : ℕ) : Type 0 where
  pub vector : Vector
  pub width : length vector ≡ cone.n
  pub base : Vanish cone.base vector
  pub here : row_at cone k · vector ≢ pos 0
  pub elsewhere : (j : ℕ) → Contains labels j → j ≢ k → row_at cone j · vector ≡ pos 0

-- a dual vector for each of the labels
abbrev pub DualVectors : ListedCone → List ℕ → Type 0
DualVectors cone labels = (k : ℕ) → Contains labels k → DualVector cone labels k

-- z is not zero, and the base and the rows of these labels are 0 at it
pub record IsLeft (cone : ListedCone) (labels : List ℕ) (z : Vector) : Type 0 where
  pub nonzero : IsZero z → ⊥
  pub width : length z ≡ cone.n
  pub base : Vanish cone.base z
  pub taken : (k : ℕ) → Contains labels k → row_at cone k · z ≡ pos 0

-- the base and the rows taken are one less than the width; they have dual vectors, and leave the direction z
pub record LeavesOne (cone : ListedCone) (marks : List Bool) (z : Vector) : Type 0 where
  pub within : length marks ≤ length cone.rows
  pub count : length cone.base + length (marked_labels marks) + 1 ≡ cone.n
  pub duals : DualVectors cone (marked_labels marks)
  pub left : IsLeft cone (marked_labels marks) z

-- the local test: each row that is 0 at z is 0 at the dual vector of each later label
abbrev pub PassesLocalTest : (cone : ListedCone) (labels : List ℕ) → DualVectors cone labels → Vector → Type 0
PassesLocalTest cone labels duals z =
    (i : ℕ) → 0 < i → row_at cone i · z ≡ pos 0 →
    (k : ℕ) (c : Contains labels k) → i < k → row_at cone i · (duals k c).vector ≡ pos 0

-- y is primitive, along z, in the cone, and shown
pub record IsShownAlong (cone : ListedCone) (z y : Vector) : Type 0 where
  pub primitive : IsPrimitive y
  pub along : IsMultipleOf z y
  pub in_cone : IsInConeOf cone.n cone.base cone.rows y
  pub shown : cone.shows y ≡ true
