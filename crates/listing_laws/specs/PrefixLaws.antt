-- Laws of the corners under a prefix, as a recursion over prefixes needs them.
use Rattle.std.specs.Prelude.{◌≡◌, ◌≢◌, ◌↔◌, ◌⊎◌, ℕ, ◌+◌, ◌<◌, ◌≤◌, Bool, true, false, List, [], ◌∷◌, ◌++◌, length}
use Rattle.std.specs.List.{Contains}
use Rattle.poly_num.specs.Vectors.{Vector}
use Rattle.poly_model.specs.Keys.{IsAscending}
use Rattle.poly_model.specs.Independence.{Follows, IsNew}
use Rattle.listing_laws.specs.ListedCone.{ListedCone, row_at, IsListable, IsShownCorner}
use Rattle.listing_laws.specs.Lists.{Lists, Begins}
use Rattle.listing_laws.specs.Prefixes.{taken_at, next_row, marked_labels, IsCornerUnder, IsListedUpTo}

-- a shown corner is under exactly one marking of all rows
abbrev pub EachHasOneList : Type 0
EachHasOneList = (cone : ListedCone) → IsListable cone → (y : Vector) → IsShownCorner cone y →
    (marks : List Bool) × (length marks ≡ length cone.rows) × IsCornerUnder cone marks y
    × ((others : List Bool) → length others ≡ length cone.rows → IsCornerUnder cone others y → others ≡ marks)

-- if all rows have a mark and a corner is under them, base and rows taken are one less than the width
abbrev pub ListIsFull : Type 0
ListIsFull = (cone : ListedCone) → IsListable cone → (marks : List Bool) (y : Vector) →
    length marks ≡ length cone.rows → IsCornerUnder cone marks y → length (taken_at cone marks) + 1 ≡ cone.n

-- a row that follows from those taken is in no list
abbrev pub FollowingIsSkipped : Type 0
FollowingIsSkipped = (cone : ListedCone) (marks : List Bool) (y : Vector) → length marks < length cone.rows →
    Follows cone.n (taken_at cone marks) (next_row cone marks) →
    IsCornerUnder cone marks y ↔ IsCornerUnder cone (marks ++ false ∷ []) y

-- any other row is in the list or is not
abbrev pub NewIsTakenOrNot : Type 0
NewIsTakenOrNot = (cone : ListedCone) (marks : List Bool) (y : Vector) → length marks < length cone.rows →
    IsNew cone.n (taken_at cone marks) (next_row cone marks) →
    IsCornerUnder cone marks y
    ↔ (IsCornerUnder cone (marks ++ true ∷ []) y ⊎ IsCornerUnder cone (marks ++ false ∷ []) y)

-- and not both
abbrev pub NotBoth : Type 0
NotBoth = (cone : ListedCone) (marks : List Bool) (y : Vector) → length marks < length cone.rows →
    IsCornerUnder cone (marks ++ true ∷ []) y → IsCornerUnder cone (marks ++ false ∷ []) y → ⊥

-- a row that is taken stands before the rows taken so far, and its label after theirs
abbrev pub TakenGrows : Type 0
TakenGrows = (cone : ListedCone) (marks : List Bool) → length marks < length cone.rows →
    (taken_at cone (marks ++ true ∷ []) ≡ next_row cone marks ∷ taken_at cone marks)
    × (marked_labels (marks ++ true ∷ []) ≡ marked_labels marks ++ (length marks + 1) ∷ [])

-- a row that is not taken changes neither
abbrev pub TakenStays : Type 0
TakenStays = (cone : ListedCone) (marks : List Bool) → length marks < length cone.rows →
    (taken_at cone (marks ++ false ∷ []) ≡ taken_at cone marks)
    × (marked_labels (marks ++ false ∷ []) ≡ marked_labels marks)

-- the first row without a mark has the label after so many marks
abbrev pub NextRowHasNextLabel : Type 0
NextRowHasNextLabel = (cone : ListedCone) (marks : List Bool) →
    row_at cone (length marks + 1) ≡ next_row cone marks

-- the labels of the marked rows ascend, from 1 on up to the number of marks
abbrev pub LabelsAscend : Type 0
LabelsAscend = (marks : List Bool) → IsAscending (marked_labels marks)
    × ((k : ℕ) → Contains (marked_labels marks) k → (0 < k) × (k ≤ length marks))

-- ---- the loop over the rows behind a prefix
-- at first nothing is listed
abbrev pub LoopBegins : Type 0
LoopBegins = (cone : ListedCone) (prefix : List Bool) → IsListedUpTo cone prefix prefix []

-- over a row that follows it goes on
abbrev pub LoopSkips : Type 0
LoopSkips = (cone : ListedCone) (prefix marks : List Bool) (listed : List Vector) →
    length marks < length cone.rows → Follows cone.n (taken_at cone marks) (next_row cone marks) →
    IsListedUpTo cone prefix marks listed → IsListedUpTo cone prefix (marks ++ false ∷ []) listed

-- over any other row once the corners whose list has it are listed too
abbrev pub LoopTakes : Type 0
LoopTakes = (cone : ListedCone) (prefix marks : List Bool) (listed more : List Vector) →
    length marks < length cone.rows → IsNew cone.n (taken_at cone marks) (next_row cone marks) →
    IsListedUpTo cone prefix marks listed → Lists (IsCornerUnder cone (marks ++ true ∷ [])) more →
    IsListedUpTo cone prefix (marks ++ false ∷ []) (listed ++ more)

-- behind the last row nothing is left, if more than one direction is
abbrev pub LoopEnds : Type 0
LoopEnds = (cone : ListedCone) → IsListable cone → (prefix marks : List Bool) (listed : List Vector) →
    length marks ≡ length cone.rows → length (taken_at cone marks) + 1 ≢ cone.n →
    IsListedUpTo cone prefix marks listed → Lists (IsCornerUnder cone prefix) listed

-- ---- a loop that stops
-- what is under a prefix is a list
abbrev pub PrefixHasList : Type 0
PrefixHasList = (cone : ListedCone) → IsListable cone → (marks : List Bool) → length marks ≤ length cone.rows →
    (shown : List Vector) × Lists (IsCornerUnder cone marks) shown

-- so what a loop has listed is the beginning of the list
abbrev pub LoopStops : Type 0
LoopStops = (cone : ListedCone) → IsListable cone → (prefix marks : List Bool) (listed : List Vector) →
    length marks ≤ length cone.rows → IsListedUpTo cone prefix marks listed →
    Begins (IsCornerUnder cone prefix) listed

-- and so it is with the beginning of what is under the next row
abbrev pub LoopStopsWithin : Type 0
LoopStopsWithin = (cone : ListedCone) → IsListable cone → (prefix marks : List Bool) (listed more : List Vector) →
    length marks < length cone.rows → IsNew cone.n (taken_at cone marks) (next_row cone marks) →
    IsListedUpTo cone prefix marks listed → Begins (IsCornerUnder cone (marks ++ true ∷ [])) more →
    Begins (IsCornerUnder cone prefix) (listed ++ more)
