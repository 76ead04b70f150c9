-- The leads of the columns of a dictionary under a root.
use Rattle.std.specs.Prelude.{◌≡◌, ◌≢◌, ℕ, ◌<◌, ◌≤◌, ◌-◌, ℤ, pos, List, length, map, Option, Some, None}
use Rattle.std.specs.List.{Contains, slice_index_or}
use Rattle.std.specs.declared.cmp.Ordering.{Ordering}
use Rattle.std.specs.declared.cmp.Ordering.TheVariants.{Equal}
use Rattle.poly_num.specs.Signs.{lex_sign_of}
use Rattle.poly_model.specs.Dictionaries.{Table}
use Rattle.poly_model.specs.LexOrder.{rows_in, within}
use Rattle.dictionary.specs.declared.positions.Position.{Position}
use Rattle.dictionary.specs.Positions.{IsPosition}
use Rattle.search_laws.specs.ChildTest.{downward}
use Rattle.dictionary.specs.Views.{Dictionary, table_of}
use Rattle.lex_pivot.specs.BeforeRoot.{before_root}

-- what is read of a dictionary: for each column, as they stand, the sign of its lead and how many rows of the root there are
-- up to that; where the labels of the root stand; and rows outside the root
pub record Outlook : Type 0 where
  pub signs : List Ordering
  pub tops : List ℕ
  pub spots : List (Option Position)
  pub before : List ℕ

-- the sign of the greatest row of the root that is not 0 in the column of s, and else equal
abbrev pub lead_sign : Dictionary → List ℕ → ℕ → Ordering
lead_sign d root s = lex_sign_of (map (λ q. Table.entry (table_of d) q s) (downward d.labels root))

-- the lead of each column, as they stand
pub record HaveLeads (d : Dictionary) (root : List ℕ) (leads : List Ordering) : Type 0 where
  pub count : length leads ≡ length d.columns
  pub signs : (j : ℕ) → j < length d.columns →
      slice_index_or leads j Equal ≡ lead_sign d root (slice_index_or d.columns j 0)

-- behind the first so many labels of the root f is 0 at its rows
pub record IsZeroBehind (d : Dictionary) (root : List ℕ) (f : ℕ → ℤ) (top : ℕ) : Type 0 where
  pub inside : top ≤ length root
  pub zero : (n : ℕ) → top ≤ n → n < length root → Contains (within d.labels root) (slice_index_or root n 0) →
      f (slice_index_or root n 0) ≡ pos 0

-- of the labels of the root the first so many are those up to the greatest row at which f is not 0; 0 where there is none
pub record IsTop (d : Dictionary) (root : List ℕ) (f : ℕ → ℤ) (top : ℕ) : Type 0 where
  pub behind : IsZeroBehind d root f top
  pub row : 0 < top → Contains (within d.labels root) (slice_index_or root (top - 1) 0)
  pub nonzero : 0 < top → f (slice_index_or root (top - 1) 0) ≢ pos 0

-- so it is of the numbers in each column, as they stand
pub record HaveTops (d : Dictionary) (root : List ℕ) (tops : List ℕ) : Type 0 where
  pub count : length tops ≡ length d.columns
  pub each : (j : ℕ) → j < length d.columns →
      IsTop d root (λ q. Table.entry (table_of d) q (slice_index_or d.columns j 0)) (slice_index_or tops j 0)

-- where a label stands if it is that of a row of the dictionary
abbrev pub IsSpot : Dictionary → ℕ → Option Position → Type 0
IsSpot d q (Some p) = Contains (rows_in d.labels) q × IsPosition d q p
IsSpot d q None = Contains (rows_in d.labels) q → ⊥

-- so it is of each label of the root; what stands behind says nothing
pub record AreSpots (d : Dictionary) (root : List ℕ) (spots : List (Option Position)) : Type 0 where
  pub room : length root ≤ length spots
  pub each : (n : ℕ) → n < length root → IsSpot d (slice_index_or root n 0) (slice_index_or spots n None)

-- these leads, with their places and where the root stands, and the rows of the cobasis that are outside the root
pub record AreLeads (d : Dictionary) (root : List ℕ) (read : Outlook) : Type 0 where
  pub leads : HaveLeads d root read.signs
  pub tops : HaveTops d root read.tops
  pub spots : AreSpots d root read.spots
  pub before : read.before ≡ before_root d root
