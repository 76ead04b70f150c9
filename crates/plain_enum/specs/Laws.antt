-- What a dictionary of the cone's space tells at a prefix of rows.
use Rattle.std.specs.Prelude.{◌≡◌, ◌≢◌, ◌↔◌, ℕ, ◌+◌, ◌<◌, Bool, true, false, pos, List, [], ◌∷◌, ◌++◌, length}
use Rattle.std.specs.List.{Contains}
use Rattle.poly_model.specs.Independence.{Follows, IsNew}
use Rattle.poly_model.specs.Systems.{Polyhedron, cone_of}
use Rattle.poly_model.specs.Spaces.{cone_space}
use Rattle.poly_model.specs.Dictionaries.{Table}
use Rattle.dictionary_laws.proofs.Members.{without}
use Rattle.dictionary.specs.Views.{Dictionary, IsDictionaryIn, IsPivot, table_of}
use Rattle.hull_lift.specs.Facets.{column_of}
use Rattle.poly_model.specs.Labels.{constant_label}
use Rattle.listing_laws.specs.ListedCone.{ListedCone}
use Rattle.listing_laws.specs.Prefixes.{taken_at, next_row, marked_labels}
use Rattle.listing_laws.specs.Directions.{PassesLocalTest}
use Rattle.plain_enum.specs.Begin.{IsBegun, fixed_in, begun_cone, left_in}
use Rattle.plain_enum.specs.Standing.{StandsAt, HasColumnValues, LeavesColumn, PassesByEntries}

-- at the column of a label of the key each label has its entry there
abbrev pub ValuesAtColumns : Type 0
ValuesAtColumns = (p : Polyhedron) (d : Dictionary) → IsDictionaryIn (cone_space p) d →
    (col : ℕ) → Contains d.key col → col < constant_label → HasColumnValues p d col

-- ---- the next row
-- it is new where its entry at a label that is left is not 0
abbrev pub NewByEntry : Type 0
NewByEntry = (p : Polyhedron) (cone : ListedCone) (d : Dictionary) (fixed left : List ℕ) (marks : List Bool) →
    StandsAt p cone d fixed left marks → length marks < length cone.rows →
    (k : ℕ) → Contains left k → Table.entry (table_of d) (length marks + 1) k ≢ pos 0 →
    IsNew cone.n (taken_at cone marks) (next_row cone marks)

-- it follows where its entry is 0 at each label that is left
abbrev pub FollowsByEntries : Type 0
FollowsByEntries = (p : Polyhedron) (cone : ListedCone) (d : Dictionary) (fixed left : List ℕ) (marks : List Bool) →
    StandsAt p cone d fixed left marks → length marks < length cone.rows →
    ((k : ℕ) → Contains left k → Table.entry (table_of d) (length marks + 1) k ≡ pos 0) →
    Follows cone.n (taken_at cone marks) (next_row cone marks)

-- ---- where one label is left
-- its column is the direction that is left
abbrev pub OneIsLeft : Type 0
OneIsLeft = (p : Polyhedron) (cone : ListedCone) (d : Dictionary) (fixed : List ℕ) (k : ℕ) (marks : List Bool) →
    StandsAt p cone d fixed (k ∷ []) marks → k < constant_label → LeavesColumn p cone d marks k

-- and the local test goes by the entries
abbrev pub TestByEntries : Type 0
TestByEntries = (p : Polyhedron) (cone : ListedCone) (d : Dictionary) (marks : List Bool) (k : ℕ) →
    (s : LeavesColumn p cone d marks k) →
    PassesLocalTest cone (marked_labels marks) s.leaves.duals (column_of d k p.n) ↔ PassesByEntries d marks k

-- ---- from prefix to prefix
-- where the linear rows have been tried it stands at the empty prefix: equations and free coordinates are fixed
abbrev pub BeginsAtEmptyPrefix : Type 0
BeginsAtEmptyPrefix = (p : Polyhedron) (at last : Dictionary) (free : List ℕ) → IsBegun p at last free →
    StandsAt p (begun_cone p free at) at (fixed_in (cone_of p).rows free at.key) (left_in free at.key) []

-- the next row is taken by a pivot
abbrev pub PivotTakes : Type 0
PivotTakes = (p : Polyhedron) (cone : ListedCone) (d new : Dictionary) (fixed left : List ℕ) (marks : List Bool) →
    StandsAt p cone d fixed left marks → length marks < length cone.rows →
    (k : ℕ) → Contains left k → IsPivot d (length marks + 1) k new →
    StandsAt p cone new fixed (without k left) (marks ++ true ∷ [])

-- where it is not taken, the dictionary stays
abbrev pub DictionaryStays : Type 0
DictionaryStays = (p : Polyhedron) (cone : ListedCone) (d : Dictionary) (fixed left : List ℕ) (marks : List Bool) →
    StandsAt p cone d fixed left marks → length marks < length cone.rows →
    StandsAt p cone d fixed left (marks ++ false ∷ [])
