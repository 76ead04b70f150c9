-- Keys as lists of the numbers of their labels.
use Rattle.std.specs.Prelude.{ℕ, zero, suc, ◌≤◌, ◌<◌, ◌==◌, nat_lt, nat_le, if◌then◌else◌, List, [], ◌∷◌, length}
use Rattle.std.specs.List.{AllByRecursion}
use Rattle.poly_model.specs.Limits.{most_labels}

-- each number is below all later ones
abbrev pub IsAscending : List ℕ → Type 0
IsAscending [] = Unit {0}
IsAscending (x ∷ xs) = AllByRecursion (λ y. x < y) xs × IsAscending xs

-- not too many numbers, strictly ascending
pub record IsKey (labels : List ℕ) : Type 0 where
  pub room : length labels ≤ most_labels
  pub ascending : IsAscending labels

-- how many numbers, from the first on, are below this one
abbrev pub lower_of : ℕ → List ℕ → ℕ
lower_of label [] = zero
lower_of label (x ∷ xs) = if nat_le label x then zero else suc (lower_of label xs)

-- the ascending list of these labels and this one
abbrev pub with_label : ℕ → List ℕ → List ℕ
with_label label [] = label ∷ []
with_label label (x ∷ xs) =
    if nat_lt label x then label ∷ x ∷ xs else (if label == x then x ∷ xs else x ∷ with_label label xs)
