-- A number in digits of 64 bits, and a number of steps that no search needs.
use Rattle.std.specs.Prelude.{ℕ, ◌+◌, ◌*◌, ◌^◌, List, [], ◌∷◌}

-- the number with these digits, the least first
abbrev pub digits_value : List ℕ → ℕ
digits_value [] = 0
digits_value (digit ∷ digits) = digit + 2 ^ 64 * digits_value digits

-- four for each set of the numbers below 8192: a cobasis of rows is such a set
unfoldable pub enough : ℕ
enough = 2 ^ 8194
