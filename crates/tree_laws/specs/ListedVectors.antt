-- Reverse search in the words of a polyhedron's listing: its keys, and at which of them each extreme vector is shown.
use Rattle.std.specs.Prelude.{◌≡◌, ℕ, List, length, Option}
use Rattle.poly_num.specs.Vectors.{Vector}
use Rattle.poly_model.specs.declared.kind.Kind.TheVariants.{V}
use Rattle.poly_model.specs.Systems.{first_unit, Polyhedron, cone_of}
use Rattle.poly_model.specs.Extreme.{IsExtreme}
use Rattle.poly_model.specs.Subtrees.{IsSubtreeRoot, IsSubtreeKey, IsSubtreeDepth, IsShownAtKey}
use Rattle.poly_model.specs.Labels.{IsRow}

-- y is shown at one place of one key, and nowhere else
pub record IsShownAtOneKey (p : Polyhedron) (root : List ℕ) (y : Vector) : Type 0 where
  pub key : List ℕ
  pub place : Option ℕ
  pub shown : IsShownAtKey p root key place y
  pub only : (other : List ℕ) (elsewhere : Option ℕ) → IsShownAtKey p root other elsewhere y →
      (other ≡ key) × (elsewhere ≡ place)

-- the search under the root lists the extreme vectors of the cone
pub record SearchesListing (p : Polyhedron) (root : List ℕ) : Type 0 where
  -- the root is a key, and each key lies under it, at one depth
  pub root_is_key : IsSubtreeKey p root root
  pub under_root : (key : List ℕ) → IsSubtreeKey p root key → (depth : ℕ) × IsSubtreeDepth p root key root depth
  pub one_depth : (key : List ℕ) (m n : ℕ) → IsSubtreeKey p root key → IsSubtreeDepth p root key root m →
      IsSubtreeDepth p root key root n → m ≡ n
  -- each extreme vector is shown, at one place of one key, and nothing else is shown
  pub each_once : (y : Vector) → IsExtreme (cone_of p) y → IsShownAtOneKey p root y
  pub only_extreme : (key : List ℕ) (place : Option ℕ) (y : Vector) → IsShownAtKey p root key place y →
      IsExtreme (cone_of p) y
  -- of a V file never 1 0 .. 0, which no point touches
  pub not_first_unit : (key : List ℕ) (place : Option ℕ) → p.kind ≡ V →
      IsShownAtKey p root key place (first_unit p.n) → ⊥

-- so it is under each root from which a search may begin. No label of a row may be that of a coordinate
abbrev pub ReverseSearchOfListings : Type 0
ReverseSearchOfListings =
    (p : Polyhedron) (root : List ℕ) → IsRow (length (cone_of p).rows) → IsSubtreeRoot p root →
    SearchesListing p root
