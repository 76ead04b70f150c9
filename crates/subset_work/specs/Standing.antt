-- Where a walk by subsets stands: at a list that a dictionary knows, or at one under which nothing is shown.
use Rattle.std.specs.Prelude.{◌≡◌, ℕ, ◌+◌, ◌-◌, ◌≤◌, ◌<◌, Bool, false, List, [], ◌∷◌, ◌++◌, length}
use Rattle.std.specs.List.{Contains}
use Rattle.poly_num.specs.Vectors.{Vector}
use Rattle.poly_model.specs.Limits.{most_labels}
use Rattle.poly_model.specs.Systems.{System, Polyhedron, row_of}
use Rattle.dictionary.specs.Views.{Dictionary}
use Rattle.listing_laws.specs.ListedCone.{ListedCone}
use Rattle.listing_laws.specs.Prefixes.{marked_labels}
use Rattle.plain_enum.specs.Listed.{IsAt}
use Rattle.work_core.specs.Meanings.{IsKeyBelow}
use Rattle.work_core.specs.Subsets.{IsSubsetKey, IsReducedDimension}
use Rattle.work_core.specs.Searches.{by_subsets}
use Rattle.work_core.specs.Subsets.{IsShownAtList}

-- the least label above those of the key
pub record IsNext (key : List ℕ) (from : ℕ) : Type 0 where
  pub some : 0 < from
  pub above : (k : ℕ) → Contains key k → k < from
  pub least : (j : ℕ) → 0 < j → ((k : ℕ) → Contains key k → k < j) → from ≤ j

-- the label of a row that is not linear
pub record IsPlainRow (sys : System) (k : ℕ) : Type 0 where
  pub some : 0 < k
  pub within : k ≤ length sys.rows
  pub plain : (row_of sys.rows k).linear ≡ false

-- so many rows more may be taken
pub record HasRoom (p : Polyhedron) (key : List ℕ) (left : ℕ) : Type 0 where
  pub narrow : p.n ≤ most_labels
  pub is_key : IsSubsetKey p key
  pub dimension : ℕ
  pub reduced : IsReducedDimension p dimension
  pub count : length key + left ≡ dimension - 1

-- the row i may be the next one: behind the rows of the key, with room for so many more
pub record MayTake (p : Polyhedron) (key : List ℕ) (i left : ℕ) : Type 0 where
  pub room : HasRoom p (key ++ i ∷ []) left
  pub next : IsNext (key ++ i ∷ []) (i + 1)

-- the rows of the key are independent, and the dictionary stands at it, before row i
pub record IsLive (sys : System) (free : List ℕ) (d : Dictionary) (i depth : ℕ) (p : Polyhedron) (key : List ℕ) :
    Type 0 where
  pub cone : ListedCone
  pub fixed : List ℕ
  pub left : List ℕ
  pub marks : List Bool
  pub at : IsAt sys free d i depth p cone fixed left marks
  pub labels : marked_labels marks ≡ key

-- nothing is shown under the key
abbrev pub IsDead : Polyhedron → List ℕ → Type 0
IsDead p key = (one : List ℕ) → IsKeyBelow (by_subsets p) key one → (y : Vector) → IsShownAtList p one y → ⊥
