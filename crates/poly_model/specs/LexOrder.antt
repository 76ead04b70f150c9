-- The order of rows relative to a root, and lists of numbers compared by their first entry that is not 0. All of it is
-- said of the labels of a space.
use Rattle.std.specs.Prelude.{◌≡◌, ◌⊎◌, ℕ, not, ◌==◌, if◌then◌else◌, ℤ, pos, neg_ℤ, ◌-ℤ◌, ◌*ℤ◌, ◌<ℤ◌, List, [], ◌∷◌, ◌++◌, map}
use Rattle.std.specs.List.{Contains, filter}
use Rattle.poly_model.specs.Spaces.{is_member}
use Rattle.poly_model.specs.Labels.{is_row}
use Rattle.poly_model.specs.Dictionaries.{Table}

-- the first number that is not 0 is positive, if there is one
abbrev pub IsNonnegative : List ℤ → Type 0
IsNonnegative [] = Unit {0}
IsNonnegative (x ∷ xs) = (pos 0 <ℤ x) ⊎ ((x ≡ pos 0) × IsNonnegative xs)

-- some number is not 0, and the first such one is positive
abbrev pub IsPositive : List ℤ → Type 0
IsPositive [] = ⊥
IsPositive (x ∷ xs) = (pos 0 <ℤ x) ⊎ ((x ≡ pos 0) × IsPositive xs)

-- the numbers p x - q y of two lists of one length: not negative where the ys over p come, by the first place at which
-- they differ, not after the xs over q
abbrev pub gaps : ℤ → List ℤ → ℤ → List ℤ → List ℤ
gaps p [] q ys = []
gaps p (x ∷ xs) q [] = []
gaps p (x ∷ xs) q (y ∷ ys) = (p *ℤ x -ℤ q *ℤ y) ∷ gaps p xs q ys

-- the rows among the labels of a space, ascending; where it has t, that is the first of them
abbrev pub rows_in : List ℕ → List ℕ
rows_in labels = filter is_row labels

-- those that are not in a root, and those that are
abbrev pub outside : List ℕ → List ℕ → List ℕ
outside labels root = filter (λ k. not (is_member k root)) (rows_in labels)

abbrev pub within : List ℕ → List ℕ → List ℕ
within labels root = filter (λ k. is_member k root) (rows_in labels)

-- the order relative to a root: the rows outside it, then its own
abbrev pub order : List ℕ → List ℕ → List ℕ
order labels root = outside labels root ++ within labels root

abbrev pub backwards : List ℕ → List ℕ
backwards [] = []
backwards (k ∷ ks) = backwards ks ++ k ∷ []

-- k stands before i in a list
abbrev pub Precedes : List ℕ → ℕ → ℕ → Type 0
Precedes [] k i = ⊥
Precedes (x ∷ xs) k i = ((k ≡ x) × Contains xs i) ⊎ Precedes xs k i

-- earlier in the order relative to a root
abbrev pub IsEarlier : List ℕ → List ℕ → ℕ → ℕ → Type 0
IsEarlier labels root k i = Precedes (order labels root) k i

-- the number of row i at row k, for its list: the denominator at itself, minus its entry at a label of the key, else 0
abbrev pub listed_at : List ℕ → Table → ℕ → ℕ → ℤ
listed_at key t i k =
    if k == i then t.denominator else (if is_member k key then neg_ℤ (t.entry i k) else pos 0)

-- the list of row i at the dictionary of a key: its constant, and a number for each row outside the root, in order
abbrev pub list_of : List ℕ → List ℕ → List ℕ → Table → ℕ → List ℤ
list_of labels root key t i = t.constant i ∷ map (listed_at key t i) (outside labels root)
