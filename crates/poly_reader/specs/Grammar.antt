-- The words that are numbers.
use Rattle.std.specs.Prelude.{ℕ, ◌^◌, Bool, ◌==◌, ◌||◌, nat_le, if◌then◌else◌, List, [], ◌∷◌, Option, Some}
use Rattle.std.specs.List.{list_any, before_first, after_first}
use Rattle.plain_text.specs.Digits.{count_of}

-- the text behind a plus or a minus sign
abbrev pub unsigned : List ℕ → List ℕ
unsigned [] = []
unsigned (b ∷ text) = if b == 43 || b == 45 then text else b ∷ text

-- what parts a numerator from a denominator
abbrev pub is_slash : ℕ → Bool
is_slash b = b == 47

-- the value of the digits before the slash, or of the whole text
abbrev pub numerator_of : List ℕ → Option ℕ
numerator_of text = count_of (before_first is_slash text)

-- the value of the digits behind the slash; without one it is 1
abbrev pub denominator_of : List ℕ → Option ℕ
denominator_of text = if list_any is_slash text then count_of (after_first is_slash text) else Some 1

-- larger in size than 2^127 - 1
abbrev pub is_wide : ℕ → Bool
is_wide n = nat_le (2 ^ 127) n
