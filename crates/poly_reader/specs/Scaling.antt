-- The whole vector without common divisor in the direction of a row of fractions.
use Rattle.std.specs.Prelude.{◌≡◌, ◌<◌, ◌^◌, Option, Some, None, ℕ, max, ◌*◌, ◌/◌, Bool, true, false, ◌||◌, List, map, ℤ, pos, ◌*ℤ◌, unsigned_abs, int_div}
use Rattle.std.specs.Option.{SomeIff}
use Rattle.std.specs.List.{fold, list_any}
use Rattle.poly_num.specs.Vectors.{Vector}
use Rattle.poly_num.specs.Divisors.{gcd_of, gcd_of_all}
use Rattle.poly_num.specs.Fractions.{Fraction}
use Rattle.poly_reader.specs.Grammar.{is_wide}

-- the least common multiple
unfoldable pub lcm_of : ℕ → ℕ → ℕ
lcm_of a b = a / gcd_of a b * b

-- the denominator without its sign, as it has none
abbrev pub size_of_den : Fraction → ℕ
size_of_den f = unsigned_abs f.den

-- the least common denominator
unfoldable pub common_den : List Fraction → ℕ
common_den row = fold (λ (q : ℕ) (f : Fraction). lcm_of q (size_of_den f)) 1 row

-- the numerators
abbrev pub numerators : List Fraction → Vector
numerators row = map (λ (f : Fraction). f.num) row

-- an entry, where p divides each numerator and each denominator divides q
abbrev pub entry_of : ℕ → ℕ → Fraction → ℤ
entry_of p q f = int_div f.num (pos p) *ℤ pos (q / size_of_den f)

-- the entries of a row of fractions in lowest terms; a row of zeros stays one
unfoldable pub scaled_entries : List Fraction → Vector
scaled_entries row = map (entry_of (max (gcd_of_all (numerators row)) 1) (common_den row)) row

-- the size of the number is too large
abbrev pub is_wide_entry : ℤ → Bool
is_wide_entry z = is_wide (unsigned_abs z)

-- the least common denominator or an entry is too wide
unfoldable pub is_wide_row : List Fraction → Bool
is_wide_row row = is_wide (common_den row) || list_any is_wide_entry (scaled_entries row)

-- none exactly where a row is too wide, and else its entries
abbrev pub AreScaledEntries : List Fraction → Option Vector → Type 0
AreScaledEntries row None = is_wide_row row ≡ true
AreScaledEntries row (Some entries) = (is_wide_row row ≡ false) × (entries ≡ scaled_entries row)

-- the size of a denominator
pub record IsDen (n : ℕ) : Type 0 where
  pub positive : 0 < n
  pub within : n < 2 ^ 127

-- a positive number, where it is not too wide
abbrev pub IsCapped : ℕ → Option ℕ → Type 0
IsCapped n o = (0 < n) × SomeIff o (n < 2 ^ 127) n

-- the entries for these p and q, none where one is too wide
abbrev pub AreEntries : ℕ → ℕ → List Fraction → Option Vector → Type 0
AreEntries p q row None = list_any is_wide_entry (map (entry_of p q) row) ≡ true
AreEntries p q row (Some entries) =
    (list_any is_wide_entry (map (entry_of p q) row) ≡ false) × (entries ≡ map (entry_of p q) row)
