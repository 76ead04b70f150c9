-- The tree of cobases under a root: lexicographically feasible cobases, the ratio test, neighbours and parents, and which
-- vector is shown at which cobasis (Avis and Fukuda 1992; Avis 2000 for the lexicographic pivots; the order of rows and
-- the rule for the parent are our own).
use Rattle.std.specs.Prelude.{◌≡◌, ◌≢◌, ◌⊎◌, ℕ, zero, suc, ◌==◌, not, ℤ, pos, neg_ℤ, ◌≤ℤ◌, ◌<ℤ◌, List, map, Option, Some, None}
use Rattle.std.specs.List.{All, Contains, filter}
use Rattle.std.specs.Ordering.{int_eq}
use Rattle.poly_num.specs.Vectors.{Vector, ◌·◌, IsPrimitive, IsMultipleOf}
use Rattle.poly_model.specs.Keys.{IsAscending, with_label}
use Rattle.poly_model.specs.Spaces.{Space, IsInside, HasPoints}
use Rattle.poly_model.specs.Dictionaries.{Table, IsDictionary}
use Rattle.poly_model.specs.LexOrder.{IsNonnegative, IsPositive, gaps, rows_in, within, order, backwards, IsEarlier, list_of}

-- ---- cobases of rows
-- a row that is not in the key
pub record IsRowOutside (labels key : List ℕ) (i : ℕ) : Type 0 where
  pub row : Contains (rows_in labels) i
  pub outside : Contains key i → ⊥

-- the dictionary of an ascending cobasis of rows. The space has a point: otherwise constants would be any numbers
pub record IsRowDictionary (space : Space) (key : List ℕ) (t : Table) : Type 0 where
  pub points : HasPoints space
  pub ascending : IsAscending key
  pub rows : All (Contains (rows_in space.labels)) key
  pub dictionary : IsDictionary space key t

-- at its dictionary no constant of a row is negative
pub record IsFeasibleRoot (space : Space) (root : List ℕ) (t : Table) : Type 0 where
  pub dictionary : IsRowDictionary space root t
  pub constants : (i : ℕ) → Contains (rows_in space.labels) i → pos 0 ≤ℤ t.constant i

-- the list of each row outside the key is positive
pub record IsLexFeasible (space : Space) (root key : List ℕ) (t : Table) : Type 0 where
  pub dictionary : IsRowDictionary space key t
  pub lists : (i : ℕ) → IsRowOutside space.labels key i → IsPositive (list_of space.labels root key t i)

-- ---- the ratio test
-- the list of row i over minus its entry at s, less that of row r over minus its own
abbrev pub ratio_gaps : List ℕ → List ℕ → List ℕ → Table → ℕ → ℕ → ℕ → List ℤ
ratio_gaps labels root key t s r i =
    gaps (neg_ℤ (t.entry r s)) (list_of labels root key t i) (neg_ℤ (t.entry i s)) (list_of labels root key t r)

-- r is a row outside the key whose entry in the column of s is negative; of those it has the least list over minus its
-- entry
pub record Leaves (labels root key : List ℕ) (t : Table) (s r : ℕ) : Type 0 where
  pub row : IsRowOutside labels key r
  pub negative : t.entry r s <ℤ pos 0
  pub least : (i : ℕ) → IsRowOutside labels key i → t.entry i s <ℤ pos 0 →
      IsNonnegative (ratio_gaps labels root key t s r i)

-- the key with r in the place of s
abbrev pub exchanged_key : List ℕ → ℕ → ℕ → List ℕ
exchanged_key key s r = with_label r (filter (λ k. not (k == s)) key)

-- the row of the ratio test in the column of s takes its place
pub record IsNeighbour (labels root key : List ℕ) (t : Table) (s : ℕ) (new : List ℕ) : Type 0 where
  pub column : Contains key s
  pub r : ℕ
  pub leaves : Leaves labels root key t s r
  pub exchange : new ≡ exchanged_key key s r

-- ---- the parent
-- of the rows of the root that are not 0 in the column of s, the greatest is negative there
abbrev pub MayEnter : List ℕ → List ℕ → Table → ℕ → Type 0
MayEnter labels root t s = IsPositive (map (λ q. neg_ℤ (t.entry q s)) (backwards (within labels root)))

-- s is the least such column
pub record Enters (labels root key : List ℕ) (t : Table) (s : ℕ) : Type 0 where
  pub column : Contains key s
  pub may : MayEnter labels root t s
  pub least : (k : ℕ) → Contains key k → MayEnter labels root t k → (k ≡ s) ⊎ IsEarlier labels root s k

-- the neighbour in that column
pub record IsParent (labels root key : List ℕ) (t : Table) (parent : List ℕ) : Type 0 where
  pub s : ℕ
  pub enters : Enters labels root key t s
  pub neighbour : IsNeighbour labels root key t s parent

-- taking parents so many times leads from a key to one above it
abbrev pub IsAbove : Space → List ℕ → ℕ → List ℕ → List ℕ → Type 0
IsAbove space root zero key above = key ≡ above
IsAbove space root (suc depth) key above =
    (t : Table) × IsDictionary space key t × (parent : List ℕ) × IsParent space.labels root key t parent
    × IsAbove space root depth parent above

abbrev pub IsUnder : Space → List ℕ → List ℕ → List ℕ → Type 0
IsUnder space root key above = (depth : ℕ) × IsAbove space root depth key above

-- ---- what is shown
-- the point test: each row outside the key with the constant 0 has the entry 0 at each earlier row of the key
abbrev pub ShowsPoint : List ℕ → List ℕ → List ℕ → Table → Type 0
ShowsPoint labels root key t =
    (i : ℕ) → IsRowOutside labels key i → t.constant i ≡ pos 0 → (k : ℕ) → Contains key k → IsEarlier labels root k i →
    t.entry i k ≡ pos 0

-- the ray test: no row outside the key is negative in the column of s; and in the column of each other label, of the rows
-- that are 0 in that of s and not 0 there, the greatest is positive
pub record ShowsRay (labels root key : List ℕ) (t : Table) (s : ℕ) : Type 0 where
  pub column : Contains key s
  pub none : (i : ℕ) → IsRowOutside labels key i → pos 0 ≤ℤ t.entry i s
  pub others : (j : ℕ) → Contains key j → j ≢ s →
      IsPositive (map (λ q. t.entry q j) (filter (λ q. int_eq (t.entry q s) (pos 0)) (backwards (order labels root))))

-- y is the primitive vector of the point: the labels of the key are 0 there
pub record IsAtPoint (space : Space) (key : List ℕ) (y : Vector) : Type 0 where
  pub primitive : IsPrimitive y
  pub inside : IsInside space y
  pub finite : pos 0 <ℤ (space.infinity · y)
  pub nothing : (k : ℕ) → Contains key k → space.form k · y ≡ pos 0

-- y is the primitive vector along the column of s: the other labels of the key are 0 there
pub record IsAlongColumn (space : Space) (key : List ℕ) (s : ℕ) (y : Vector) : Type 0 where
  pub primitive : IsPrimitive y
  pub inside : IsInside space y
  pub level : space.infinity · y ≡ pos 0
  pub here : pos 0 <ℤ (space.form s · y)
  pub nothing : (k : ℕ) → Contains key k → k ≢ s → space.form k · y ≡ pos 0

-- y is shown at a key: as its point, or along the column of s
abbrev pub IsShownAt : Space → List ℕ → List ℕ → Table → Option ℕ → Vector → Type 0
IsShownAt space root key t None y = ShowsPoint space.labels root key t × IsAtPoint space key y
IsShownAt space root key t (Some s) y = ShowsRay space.labels root key t s × IsAlongColumn space key s y

-- ---- extreme vectors of a space
-- y is primitive, no row and nothing at infinity is negative at it, and only its multiples are 0 where it is
pub record IsExtremeIn (space : Space) (y : Vector) : Type 0 where
  pub primitive : IsPrimitive y
  pub inside : IsInside space y
  pub finite : pos 0 ≤ℤ (space.infinity · y)
  pub rows : (i : ℕ) → Contains (rows_in space.labels) i → pos 0 ≤ℤ (space.form i · y)
  pub alone : (z : Vector) → IsInside space z → (space.infinity · y ≡ pos 0 → space.infinity · z ≡ pos 0) →
      ((i : ℕ) → Contains (rows_in space.labels) i → space.form i · y ≡ pos 0 → space.form i · z ≡ pos 0) → IsMultipleOf y z
