-- The order relative to a root by tests of labels.
use Rattle.std.specs.Prelude.{◌≡◌, ℕ, ◌<◌, Bool, true, false, not, nat_lt, if◌then◌else◌, List, length}
use Rattle.std.specs.List.{slice_index_or}
use Rattle.poly_model.specs.Labels.{is_row}
use Rattle.poly_model.specs.Spaces.{is_member}

-- a row outside the root
abbrev pub is_before_root : List ℕ → ℕ → Bool
is_before_root root k = if is_row k then not (is_member k root) else false

-- row k is earlier than row i: those outside the root come first
abbrev pub is_earlier : List ℕ → ℕ → ℕ → Bool
is_earlier root k i =
    if is_member k root then (if is_member i root then nat_lt k i else false)
    else (if is_member i root then true else nat_lt k i)

-- for each label below their number, whether it is one of these
abbrev pub AreMarks : List ℕ → List Bool → Type 0
AreMarks labels marks = (k : ℕ) → k < length marks → slice_index_or marks k false ≡ is_member k labels
