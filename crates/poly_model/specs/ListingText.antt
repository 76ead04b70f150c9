-- The exact text of a listing, piece by piece: its head, its lines and rows, its end.
-- A listing is of the kind that the input file is not. Each of its lines ends in one LF.
use Rattle.std.specs.Prelude.{ℕ, zero, suc, List, [], ◌∷◌, ◌++◌, ℤ, pos, Bool, true, false, codes, if◌then◌else◌}
use Rattle.std.specs.Fmt.{decimal, signed_decimal}
use Rattle.poly_num.specs.Fractions.{Fraction, lowest}
use Rattle.poly_model.specs.declared.kind.Kind.{Kind}
use Rattle.poly_model.specs.declared.kind.Kind.TheVariants.{H, V}

-- ---- the head

-- the first line, for an input file of this kind
unfoldable pub title_text : Kind → List ℕ
title_text H = codes "V-representation\n"
title_text V = codes "H-representation\n"

-- a number after one blank
unfoldable pub number_text : ℕ → List ℕ
number_text i = 32 ∷ decimal i

-- n numbers from i on, each after one blank
unfoldable pub numbers_text : ℕ → ℕ → List ℕ
numbers_text i zero = []
numbers_text i (suc n) = number_text i ++ numbers_text (suc i) n

-- the line that says that the first rows are lines, where there are some
unfoldable pub linearity_text : ℕ → List ℕ
linearity_text zero = []
linearity_text (suc k) = codes "linearity " ++ decimal (suc k) ++ numbers_text 1 (suc k) ++ 10 ∷ []

-- the line before the rows, and the one that says how many entries each has
unfoldable pub size_text : ℕ → List ℕ
size_text n = codes "begin\n***** " ++ decimal n ++ codes " rational\n"

-- all that stands before the rows, for an input file of this kind
unfoldable pub head_text : Kind → ℕ → ℕ → List ℕ
head_text kind n lines = title_text kind ++ linearity_text lines ++ size_text n

-- ---- a row of whole entries

-- an entry after one blank
unfoldable pub entry_text : ℤ → List ℕ
entry_text y = 32 ∷ signed_decimal y

-- the entries, each after one blank
unfoldable pub entries_text : List ℤ → List ℕ
entries_text [] = []
entries_text (y ∷ ys) = entry_text y ++ entries_text ys

-- a line with the whole entries
unfoldable pub vector_text : List ℤ → List ℕ
vector_text v = entries_text v ++ 10 ∷ []

-- ---- a point

-- what stands behind a numerator: nothing where the denominator is 1
unfoldable pub denominator_text : ℤ → List ℕ
denominator_text (pos (suc zero)) = []
denominator_text d = 47 ∷ signed_decimal d

-- p where the denominator is 1, else p/q, after one blank
unfoldable pub fraction_text : Fraction → List ℕ
fraction_text f = entry_text f.num ++ denominator_text f.den

-- the entries over a first one, in lowest terms, each after one blank
unfoldable pub coordinates_text : ℤ → List ℤ → List ℕ
coordinates_text first [] = []
coordinates_text first (y ∷ ys) = fraction_text (lowest y first) ++ coordinates_text first ys

-- a line with 1 and the other entries over the first one; a row without entries is an empty line
unfoldable pub point_text : List ℤ → List ℕ
point_text [] = 10 ∷ []
point_text (first ∷ ys) = codes " 1" ++ coordinates_text first ys ++ 10 ∷ []

-- ---- rows, and the end

-- the first entry is positive
unfoldable pub is_point : List ℤ → Bool
is_point (pos (suc n) ∷ ys) = true
is_point ys = false

-- a row: a point of an H file as such, else its whole entries
unfoldable pub row_text : Kind → List ℤ → List ℕ
row_text H v = if is_point v then point_text v else vector_text v
row_text V v = vector_text v

-- the last line
unfoldable pub end_text : List ℕ
end_text = codes "end\n"
