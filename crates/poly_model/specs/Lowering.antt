-- Steps that lower a row: as long as it is negative in some column, the neighbour in the least such column is taken.
use Rattle.std.specs.Prelude.{◌≡◌, ◌⊎◌, ℕ, zero, suc, pos, ◌<ℤ◌, ◌≤ℤ◌, List}
use Rattle.std.specs.List.{Contains}
use Rattle.poly_model.specs.Spaces.{Space}
use Rattle.poly_model.specs.Dictionaries.{Table, IsDictionary}
use Rattle.poly_model.specs.LexOrder.{IsEarlier}
use Rattle.poly_model.specs.Tree.{IsNeighbour}

-- s is the least column in which row q is negative
pub record Lowers (labels root key : List ℕ) (t : Table) (q s : ℕ) : Type 0 where
  pub column : Contains key s
  pub negative : t.entry q s <ℤ pos 0
  pub least : (k : ℕ) → Contains key k → t.entry q k <ℤ pos 0 → (k ≡ s) ⊎ IsEarlier labels root s k

-- a step takes the neighbour in that column
pub record IsLoweringStep (labels root : List ℕ) (q : ℕ) (key : List ℕ) (t : Table) (new : List ℕ) : Type 0 where
  pub s : ℕ
  pub lowers : Lowers labels root key t q s
  pub neighbour : IsNeighbour labels root key t s new

-- row q is negative in no column
abbrev pub IsLowest : List ℕ → Table → ℕ → Type 0
IsLowest key t q = (s : ℕ) → Contains key s → pos 0 ≤ℤ t.entry q s

-- so many steps lead from a key to another
abbrev pub IsDescent : Space → List ℕ → ℕ → ℕ → List ℕ → List ℕ → Type 0
IsDescent space root q zero key end = key ≡ end
IsDescent space root q (suc steps) key end =
    (t : Table) × IsDictionary space key t × (new : List ℕ) × IsLoweringStep space.labels root q key t new
    × IsDescent space root q steps new end
