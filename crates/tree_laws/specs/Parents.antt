-- What holds of parents: the root has none, each other cobasis has one, and the root is reached.
use Rattle.std.specs.Prelude.{◌≡◌, ◌≢◌, ◌⊎◌, ℕ, ℤ, List, [], ◌∷◌, ◌++◌}
use Rattle.poly_model.specs.Spaces.{Space}
use Rattle.poly_model.specs.Dictionaries.{Table}
use Rattle.poly_model.specs.LexOrder.{IsPositive, gaps, rows_in, within, backwards, list_of}
use Rattle.poly_model.specs.Tree.{IsRowDictionary, IsFeasibleRoot, IsLexFeasible, IsParent, IsAbove, IsUnder}
use Rattle.linear_laws.specs.Distinct.{AreDistinct}

-- a feasible root is lexicographically feasible
abbrev pub RootIsFeasible : Type 0
RootIsFeasible =
    (space : Space) (root : List ℕ) (home : Table) → IsFeasibleRoot space root home →
    IsLexFeasible space root root home

-- the key is the root and has no parent, or it is another and has one
abbrev pub IsRootOrChild : Space → List ℕ → List ℕ → Table → Type 0
IsRootOrChild space root key t =
    ((key ≡ root) × ((parent : List ℕ) → IsParent space.labels root key t parent → ⊥))
    ⊎ ((key ≢ root) × (parent : List ℕ) × IsParent space.labels root key t parent)

abbrev pub OnlyRootHasNoParent : Type 0
OnlyRootHasNoParent =
    (space : Space) (root key : List ℕ) (home t : Table) → IsFeasibleRoot space root home →
    IsLexFeasible space root key t → IsRootOrChild space root key t

-- a key has one parent at most, by whichever tables, where each row stands once
abbrev pub OneParent : Type 0
OneParent =
    (space : Space) (root key parent other : List ℕ) (home t u : Table) → AreDistinct (rows_in space.labels) →
    IsRowDictionary space root home → IsRowDictionary space key t → IsRowDictionary space key u →
    IsParent space.labels root key t parent → IsParent space.labels root key u other → parent ≡ other

module _ (space : Space) (root : List ℕ) where
  -- the lists of these rows, one after the other
  abbrev pub lists_of : List ℕ → Table → List ℕ → List ℤ
  lists_of key t [] = []
  lists_of key t (q ∷ qs) = list_of space.labels root key t q ++ lists_of key t qs

  -- those of the rows of the root, the greatest first
  abbrev pub root_lists : List ℕ → Table → List ℤ
  root_lists key t = lists_of key t (backwards (within space.labels root))

  -- they are less, over the denominator, at u than at t
  abbrev pub IsBelow : List ℕ → Table → List ℕ → Table → Type 0
  IsBelow key t new u = IsPositive (gaps u.denominator (root_lists key t) t.denominator (root_lists new u))

-- a parent is below its child
abbrev pub ParentIsBelow : Type 0
ParentIsBelow =
    (space : Space) (root key parent : List ℕ) (t u : Table) → IsRowDictionary space key t →
    IsLexFeasible space root parent u → IsParent space.labels root key t parent → IsBelow space root key t parent u

-- parents lead from each feasible cobasis to the root
abbrev pub UnderTheRoot : Type 0
UnderTheRoot =
    (space : Space) (root key : List ℕ) (home t : Table) → IsFeasibleRoot space root home →
    IsLexFeasible space root key t → IsUnder space root key root

-- and always by as many steps, where each row stands once
abbrev pub OneDepth : Type 0
OneDepth =
    (space : Space) (root key : List ℕ) (home t : Table) → AreDistinct (rows_in space.labels) →
    IsRowDictionary space root home → IsLexFeasible space root key t → (m n : ℕ) → IsAbove space root m key root →
    IsAbove space root n key root → m ≡ n
