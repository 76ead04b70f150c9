-- The test of a child, read from the dictionary of the parent: no pivot is needed.
use Rattle.std.specs.Prelude.{◌≡◌, ◌≢◌, ◌↔◌, ℕ, ℤ, pos, neg_ℤ, ◌+ℤ◌, ◌*ℤ◌, ◌<ℤ◌, List, ◌∷◌, ◌++◌, map}
use Rattle.std.specs.List.{Contains}
use Rattle.poly_model.specs.Spaces.{Space}
use Rattle.poly_model.specs.Dictionaries.{Table}
use Rattle.poly_model.specs.LexOrder.{IsPositive, rows_in, within, backwards, IsEarlier}
use Rattle.poly_model.specs.Tree.{IsRowDictionary, IsLexFeasible, Leaves, MayEnter, exchanged_key}
use Rattle.linear_laws.specs.Distinct.{AreDistinct}
use Rattle.search_laws.specs.Shares.{IsChild}

-- the rows of the root, the greatest first
abbrev pub downward : List ℕ → List ℕ → List ℕ
downward labels root = backwards (within labels root)

-- the greatest row of the root that is not 0 in the column of s is positive there
abbrev pub LeadsUp : List ℕ → List ℕ → Table → ℕ → Type 0
LeadsUp labels root t s = IsPositive (map (λ q. t.entry q s) (downward labels root))

module _ (t : Table) (s r : ℕ) where
  -- row q in column j after the exchange of s and r, times a positive number
  abbrev pub neighbour_entry : ℕ → ℕ → ℤ
  neighbour_entry j q = neg_ℤ (t.entry r s) *ℤ t.entry q j +ℤ t.entry q s *ℤ t.entry r j

  -- the first of these rows that would not be 0 in the column of j after the exchange would be negative there
  abbrev pub WouldEnter : ℕ → List ℕ → Type 0
  WouldEnter j qs = IsPositive (map (λ q. neg_ℤ (neighbour_entry j q)) qs)

  -- how the sign in the column of another label j of the key is found, without products
  pub record AreNeighbourEntries (labels root : List ℕ) (j : ℕ) : Type 0 where
    -- rows r, s and j after the exchange
    pub at_r : neighbour_entry j r ≡ pos 0
    pub at_s : neighbour_entry j s ≡ t.denominator *ℤ t.entry r j
    pub at_j : neighbour_entry j j ≡ neg_ℤ (t.entry r s) *ℤ t.denominator
    -- row r is 0 in the column: it is as it was
    pub kept : t.entry r j ≡ pos 0 → WouldEnter j (downward labels root) ↔ MayEnter labels root t j
    -- rows that are 0 in both columns do not count
    pub skip : (front back : List ℕ) →
        ((q : ℕ) → Contains front q → (t.entry q s ≡ pos 0) × (t.entry q j ≡ pos 0)) →
        WouldEnter j (front ++ back) ↔ WouldEnter j back
    -- the column of s is the first that is not 0: the sign of row r in that of j
    pub s_first : (q : ℕ) (qs : List ℕ) → t.entry q j ≡ pos 0 → pos 0 <ℤ t.entry q s → t.entry r j ≢ pos 0 →
        WouldEnter j (q ∷ qs) ↔ (t.entry r j <ℤ pos 0)
    -- that of j is: its sign
    pub j_first : (q : ℕ) (qs : List ℕ) → t.entry q s ≡ pos 0 → t.entry q j ≢ pos 0 →
        WouldEnter j (q ∷ qs) ↔ (t.entry q j <ℤ pos 0)

-- column s leads up, and after the exchange no label before r would enter in its place
pub record IsDown (labels root key : List ℕ) (t : Table) (s r : ℕ) : Type 0 where
  pub lead : LeadsUp labels root t s
  pub others : (j : ℕ) → Contains key j → j ≢ s → IsEarlier labels root j r →
      WouldEnter t s r j (downward labels root) → ⊥

-- the neighbour in the column of s, where row r leaves, is a child exactly where the test holds
abbrev pub ChildByTest : Type 0
ChildByTest =
    (space : Space) (root key : List ℕ) (home t : Table) → AreDistinct (rows_in space.labels) →
    IsRowDictionary space root home → IsLexFeasible space root key t → (s r : ℕ) → Contains key s →
    Leaves space.labels root key t s r →
    IsChild space root key (exchanged_key key s r) ↔ IsDown space.labels root key t s r

-- the sign is found so at each dictionary of a key with s and j, where row r is negative in the column of s
abbrev pub NeighbourSigns : Type 0
NeighbourSigns =
    (space : Space) (root key : List ℕ) (t : Table) → IsRowDictionary space key t → (s r j : ℕ) → Contains key s →
    Contains key j → j ≢ s → t.entry r s <ℤ pos 0 → AreNeighbourEntries t s r space.labels root j
