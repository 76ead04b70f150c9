-- Prefixes: the first rows of a cone, each marked or not, and the corners whose list of rows begins so.
use Rattle.std.specs.Prelude.{ℕ, suc, Bool, true, false, List, [], ◌∷◌, length}
use Rattle.std.specs.List.{slice_index_or}
use Rattle.poly_num.specs.Vectors.{Vector}
use Rattle.poly_model.specs.Independence.{taken}
use Rattle.linear_laws.specs.LocalTest.{AreFirstTight}
use Rattle.listing_laws.specs.ListedCone.{ListedCone, IsShownCorner}
use Rattle.listing_laws.specs.Lists.{Goes}

-- the rows that are marked, the last of them first, and then the base
abbrev pub taken_at : ListedCone → List Bool → List Vector
taken_at cone marks = taken cone.base cone.rows marks

-- the first row that has no mark yet
abbrev pub next_row : ListedCone → List Bool → Vector
next_row cone marks = slice_index_or cone.rows (length marks) []

-- the labels of the marked rows, ascending, where the first row has the label k
abbrev pub labels_from : ℕ → List Bool → List ℕ
labels_from k [] = []
labels_from k (true ∷ marks) = k ∷ labels_from (suc k) marks
labels_from k (false ∷ marks) = labels_from (suc k) marks

-- the labels of the rows that are marked
abbrev pub marked_labels : List Bool → List ℕ
marked_labels marks = labels_from 1 marks

-- y is a shown corner, and of the rows that have a mark its first independent list of tight rows has exactly
-- those that are marked
abbrev pub IsCornerUnder : ListedCone → List Bool → Vector → Type 0
IsCornerUnder cone marks y = IsShownCorner cone y × AreFirstTight cone.n cone.base y cone.rows marks

-- of the corners under a prefix these are listed, and those under the marks are left
abbrev pub IsListedUpTo : ListedCone → List Bool → List Bool → List Vector → Type 0
IsListedUpTo cone prefix marks listed = Goes (IsCornerUnder cone prefix) (IsCornerUnder cone marks) listed
