-- The weight of a key: how many lexicographically feasible cobases are under it, itself with them.
use Rattle.std.specs.Prelude.{◌≡◌, ◌+◌, ℕ, suc, List, [], ◌∷◌, length}
use Rattle.std.specs.List.{Contains}
use Rattle.poly_model.specs.Spaces.{Space}
use Rattle.poly_model.specs.Dictionaries.{Table}
use Rattle.poly_model.specs.LexOrder.{rows_in}
use Rattle.poly_model.specs.Tree.{IsFeasibleRoot, IsLexFeasible, IsUnder}
use Rattle.linear_laws.specs.Distinct.{AreDistinct}
use Rattle.search_laws.specs.Shares.{ListsAll, IsFeasibleKey, IsChild, IsFeasibleUnder}

module _ (space : Space) (root : List ℕ) where
  abbrev pub IsWeight : List ℕ → ℕ → Type 0
  IsWeight key w = (ks : List (List ℕ)) × ListsAll (IsFeasibleUnder space root key) ks × (length ks ≡ w)

  -- the weights of these keys add up to w
  abbrev pub IsTotal : List (List ℕ) → ℕ → Type 0
  IsTotal [] w = w ≡ 0
  IsTotal (key ∷ keys) w = (u : ℕ) × (v : ℕ) × IsWeight key u × IsTotal keys v × (w ≡ u + v)

  -- a lexicographically feasible cobasis under one of these keys
  pub record IsUnderSome (keys : List (List ℕ)) (one : List ℕ) : Type 0 where
    pub feasible : IsFeasibleKey space root one
    pub key : List ℕ
    pub member : Contains keys key
    pub under : IsUnder space root one key

  -- none of two of these keys is under the other
  pub record AreIncomparable (key other : List ℕ) : Type 0 where
    pub above : IsUnder space root key other → ⊥
    pub below : IsUnder space root other key → ⊥

  abbrev pub IsAntichain : List (List ℕ) → Type 0
  IsAntichain [] = Unit {0}
  IsAntichain (key ∷ keys) = ((other : List ℕ) → Contains keys other → AreIncomparable key other) × IsAntichain keys

-- a lexicographically feasible cobasis has one weight: one more than the total of its children
pub record HasWeight (space : Space) (root key : List ℕ) : Type 0 where
  pub some : (w : ℕ) × IsWeight space root key w
  pub one : (v w : ℕ) → IsWeight space root key v → IsWeight space root key w → v ≡ w
  pub children : (cs : List (List ℕ)) (w : ℕ) → ListsAll (IsChild space root key) cs → IsTotal space root cs w →
      IsWeight space root key (suc w)

abbrev pub WeightsAddUp : Type 0
WeightsAddUp =
    (space : Space) (root key : List ℕ) (home t : Table) → AreDistinct (rows_in space.labels) →
    IsFeasibleRoot space root home → IsLexFeasible space root key t → HasWeight space root key

-- the weight of the root is the number of all lexicographically feasible cobases
abbrev pub RootWeighsAll : Type 0
RootWeighsAll =
    (space : Space) (root : List ℕ) (home : Table) → IsFeasibleRoot space root home → (w : ℕ) →
    IsWeight space root root w →
    (ks : List (List ℕ)) × ListsAll (IsFeasibleKey space root) ks × (length ks ≡ w)
