-- The children of a cobasis, the cobases under it, and its share: the vectors that are shown at them.
use Rattle.std.specs.Prelude.{◌≡◌, ◌⊎◌, ◌↔◌, ℕ, List, Option}
use Rattle.std.specs.List.{Contains}
use Rattle.poly_num.specs.Vectors.{Vector}
use Rattle.poly_model.specs.Spaces.{Space}
use Rattle.poly_model.specs.Dictionaries.{Table}
use Rattle.poly_model.specs.LexOrder.{rows_in}
use Rattle.poly_model.specs.Tree.{IsRowDictionary, IsFeasibleRoot, IsLexFeasible, IsNeighbour, IsParent, IsUnder, IsShownAt}
use Rattle.linear_laws.specs.Distinct.{AreDistinct}

module _ {X : Type 0} where
  -- the members are those with P, each once
  pub record ListsAll (P : X → Type 0) (xs : List X) : Type 0 where
    pub once : AreDistinct xs
    pub only : (x : X) → Contains xs x → P x
    pub each : (x : X) → P x → Contains xs x

module _ (space : Space) (root : List ℕ) where
  abbrev pub IsFeasibleKey : List ℕ → Type 0
  IsFeasibleKey key = (t : Table) × IsLexFeasible space root key t

  -- a lexicographically feasible cobasis whose parent is the key
  abbrev pub IsChild : List ℕ → List ℕ → Type 0
  IsChild key child = (t : Table) × IsLexFeasible space root child t × IsParent space.labels root child t key

  -- a child, which is the neighbour in the column of s
  pub record IsChildAt (key : List ℕ) (s : ℕ) (one : List ℕ) : Type 0 where
    pub child : IsChild key one
    pub table : Table
    pub dictionary : IsRowDictionary space key table
    pub neighbour : IsNeighbour space.labels root key table s one

  -- a lexicographically feasible cobasis under the key
  abbrev pub IsFeasibleUnder : List ℕ → List ℕ → Type 0
  IsFeasibleUnder key one = IsFeasibleKey one × IsUnder space root one key

  -- y is shown at this lexicographically feasible cobasis
  abbrev pub IsShownBy : List ℕ → Vector → Type 0
  IsShownBy key y =
      (t : Table) × IsLexFeasible space root key t × (place : Option ℕ) × IsShownAt space root key t place y

  -- y is shown at a cobasis under the key
  abbrev pub InShare : List ℕ → Vector → Type 0
  InShare key y = (one : List ℕ) × IsUnder space root one key × IsShownBy one y

-- ---- children
-- the children are neighbours, one at most in each column, and whether there is one can be decided
pub record HasChildren (space : Space) (root key : List ℕ) (t : Table) : Type 0 where
  pub listed : (children : List (List ℕ)) × ListsAll (IsChild space root key) children
  pub column : (child : List ℕ) → IsChild space root key child → (s : ℕ) × IsNeighbour space.labels root key t s child
  pub decided : (s : ℕ) → Contains key s →
      ((child : List ℕ) × IsChild space root key child × IsNeighbour space.labels root key t s child)
      ⊎ ((child : List ℕ) → IsChild space root key child → IsNeighbour space.labels root key t s child → ⊥)

-- the children of a lexicographically feasible cobasis are a list
abbrev pub ListsChildren : Type 0
ListsChildren =
    (space : Space) (root key : List ℕ) (home t : Table) → AreDistinct (rows_in space.labels) →
    IsFeasibleRoot space root home → IsLexFeasible space root key t → HasChildren space root key t

-- ---- the cobases under a key
-- parents make a tree: two keys that have a lexicographically feasible cobasis under them both are one under the other
pub record IsTree (space : Space) (root : List ℕ) : Type 0 where
  pub feasible : (a b : List ℕ) → IsFeasibleKey space root a → IsUnder space root a b → IsFeasibleKey space root b
  pub through : (a b c : List ℕ) → IsUnder space root a b → IsUnder space root b c → IsUnder space root a c
  pub both : (a b : List ℕ) → IsFeasibleKey space root a → IsUnder space root a b → IsUnder space root b a → a ≡ b
  pub meet : (one b c : List ℕ) → IsFeasibleKey space root one → IsUnder space root one b →
      IsUnder space root one c → IsUnder space root b c ⊎ IsUnder space root c b
  pub one_child : (one key b c : List ℕ) → IsFeasibleKey space root one → IsChild space root key b →
      IsChild space root key c → IsUnder space root one b → IsUnder space root one c → b ≡ c
  pub not_under_child : (key child : List ℕ) → IsChild space root key child → IsUnder space root key child → ⊥

abbrev pub ParentsMakeATree : Type 0
ParentsMakeATree =
    (space : Space) (root : List ℕ) (home : Table) → AreDistinct (rows_in space.labels) →
    IsFeasibleRoot space root home →
    IsTree space root

-- ---- shares
pub record HasShare (space : Space) (root key : List ℕ) : Type 0 where
  -- under a key are itself, and those under its children
  pub under : (one : List ℕ) → IsFeasibleUnder space root key one
      ↔ ((one ≡ key) ⊎ ((child : List ℕ) × IsChild space root key child × IsFeasibleUnder space root child one))
  -- so its share is what it shows itself, and the shares of its children
  pub share : (y : Vector) → InShare space root key y
      ↔ (IsShownBy space root key y ⊎ ((child : List ℕ) × IsChild space root key child × InShare space root child y))

abbrev pub SharesHaveParts : Type 0
SharesHaveParts =
    (space : Space) (root key : List ℕ) (home t : Table) → IsFeasibleRoot space root home →
    IsLexFeasible space root key t → HasShare space root key

-- the share of the root is all that is shown
abbrev pub RootHasAll : Type 0
RootHasAll =
    (space : Space) (root : List ℕ) (home : Table) → IsFeasibleRoot space root home → (y : Vector) →
    InShare space root root y ↔ ((key : List ℕ) × IsShownBy space root key y)

-- ---- any table
-- all tables of a key serve alike
pub record ServesToo (space : Space) (root key : List ℕ) (t u : Table) : Type 0 where
  pub feasible : IsLexFeasible space root key t → IsLexFeasible space root key u
  pub shown : (place : Option ℕ) (y : Vector) → IsShownAt space root key t place y → IsShownAt space root key u place y

abbrev pub AnyTableServes : Type 0
AnyTableServes =
    (space : Space) (root key : List ℕ) (t u : Table) → IsRowDictionary space key t → IsRowDictionary space key u →
    ServesToo space root key t u
