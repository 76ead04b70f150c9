-- What holds of the tree of cobases under every feasible root.
use Rattle.std.specs.Prelude.{◌≡◌, ◌≢◌, ℕ, ℤ, pos, neg_ℤ, ◌*ℤ◌, ◌<ℤ◌, List}
use Rattle.std.specs.List.{Contains}
use Rattle.poly_num.specs.Vectors.{scale, IsZero}
use Rattle.poly_model.specs.Spaces.{Space}
use Rattle.poly_model.specs.Dictionaries.{Table}
use Rattle.poly_model.specs.LexOrder.{gaps, list_of}
use Rattle.poly_model.specs.Tree.{IsRowDictionary, IsRowOutside, IsLexFeasible, IsNeighbour, IsParent, Leaves, exchanged_key, ratio_gaps}

-- the list of a row outside a key is not zero
abbrev pub ListsAreNotZero : Type 0
ListsAreNotZero =
    (space : Space) (root key : List ℕ) (home t : Table) → IsRowDictionary space root home →
    IsRowDictionary space key t → (i : ℕ) → IsRowOutside space.labels key i →
    IsZero (list_of space.labels root key t i) → ⊥

-- and those of two such rows differ, whatever multiples are taken
abbrev pub NoTies : Type 0
NoTies =
    (space : Space) (root key : List ℕ) (home t : Table) → IsRowDictionary space root home →
    IsRowDictionary space key t → (i j : ℕ) → IsRowOutside space.labels key i → IsRowOutside space.labels key j →
    i ≢ j → (p q : ℤ) →
    IsZero (gaps p (list_of space.labels root key t i) q (list_of space.labels root key t j)) →
    (p ≡ pos 0) × (q ≡ pos 0)

-- u is the dictionary of the key with r in the place of s: its lists from those of t, and its entry at (s, r)
pub record AreExchangedLists (space : Space) (root key : List ℕ) (t : Table) (s r : ℕ) (u : Table) : Type 0 where
  pub entry : t.entry r s *ℤ u.entry s r ≡ t.denominator *ℤ u.denominator
  pub leaving : scale (neg_ℤ (t.entry r s)) (list_of space.labels root (exchanged_key key s r) u s)
      ≡ scale u.denominator (list_of space.labels root key t r)
  pub others : (i : ℕ) → IsRowOutside space.labels key i → i ≢ r →
      scale (neg_ℤ (t.entry r s) *ℤ t.denominator) (list_of space.labels root (exchanged_key key s r) u i)
      ≡ scale u.denominator (ratio_gaps space.labels root key t s r i)

-- a row outside the key whose entry in the column of s is not 0 can take its place
pub record IsExchange (space : Space) (key : List ℕ) (t : Table) (s r : ℕ) : Type 0 where
  pub some : (u : Table) × IsRowDictionary space (exchanged_key key s r) u
  pub lists : (root : List ℕ) (u : Table) → IsRowDictionary space (exchanged_key key s r) u →
      AreExchangedLists space root key t s r u

abbrev pub ExchangedLists : Type 0
ExchangedLists =
    (space : Space) (key : List ℕ) (t : Table) → IsRowDictionary space key t → (s r : ℕ) → Contains key s →
    IsRowOutside space.labels key r → t.entry r s ≢ pos 0 → IsExchange space key t s r

-- where a row outside the key is negative in the column of s, there is a neighbour
abbrev pub SomeNeighbour : Type 0
SomeNeighbour =
    (space : Space) (root key : List ℕ) (t : Table) (s i : ℕ) → Contains key s → IsRowOutside space.labels key i →
    t.entry i s <ℤ pos 0 → (new : List ℕ) × IsNeighbour space.labels root key t s new

-- a neighbour of a lexicographically feasible cobasis has a dictionary, and is feasible
pub record IsFeasibleNeighbour (space : Space) (root new : List ℕ) : Type 0 where
  pub some : (u : Table) × IsRowDictionary space new u
  pub feasible : (u : Table) → IsRowDictionary space new u → IsLexFeasible space root new u

abbrev pub NeighboursAreFeasible : Type 0
NeighboursAreFeasible =
    (space : Space) (root key new : List ℕ) (home t : Table) → IsRowDictionary space root home →
    IsLexFeasible space root key t → (s : ℕ) → IsNeighbour space.labels root key t s new →
    IsFeasibleNeighbour space root new

-- the ratio test gives one row at most, so there is one neighbour at most in a column, by whichever tables of the key
pub record GivesOne (space : Space) (root key : List ℕ) (t u : Table) (s : ℕ) : Type 0 where
  pub row : (r q : ℕ) → Leaves space.labels root key t s r → Leaves space.labels root key u s q → r ≡ q
  pub neighbour : (new other : List ℕ) → IsNeighbour space.labels root key t s new →
      IsNeighbour space.labels root key u s other →
      new ≡ other

abbrev pub OneNeighbour : Type 0
OneNeighbour =
    (space : Space) (root key : List ℕ) (home t u : Table) → IsRowDictionary space root home →
    IsRowDictionary space key t → IsRowDictionary space key u → (s : ℕ) → Contains key s → GivesOne space root key t u s

-- a feasible cobasis is the neighbour of each of its neighbours, in the column of the row that took the place
abbrev pub NeighboursAreMutual : Type 0
NeighboursAreMutual =
    (space : Space) (root key new : List ℕ) (t u : Table) → IsLexFeasible space root key t →
    IsLexFeasible space root new u → (s : ℕ) (n : IsNeighbour space.labels root key t s new) →
    (back : IsNeighbour space.labels root new u n.r key) × (back.r ≡ s)

-- so each child is the neighbour of its parent
abbrev pub ChildIsNeighbour : Type 0
ChildIsNeighbour =
    (space : Space) (root key parent : List ℕ) (t u : Table) → IsLexFeasible space root key t →
    IsLexFeasible space root parent u → (p : IsParent space.labels root key t parent) →
    (back : IsNeighbour space.labels root parent u p.neighbour.r key) × (back.r ≡ p.s)
