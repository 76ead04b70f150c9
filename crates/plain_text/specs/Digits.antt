-- Texts of decimal digits, and what they say.
use Rattle.std.specs.Prelude.{ℕ, ◌+◌, ◌*◌, ◌-◌, ◌^◌, min, Bool, true, false, ◌==◌, ◌&&◌, nat_le, if◌then◌else◌, List, [], ◌∷◌, Option, Some, None, ℤ, pos, neg_ℤ}
use Rattle.std.specs.List.{list_all, fold}

-- at least one byte
abbrev pub is_nonempty : List ℕ → Bool
is_nonempty [] = false
is_nonempty (b ∷ bytes) = true

-- a decimal digit
abbrev pub is_digit : ℕ → Bool
is_digit b = nat_le 48 b && nat_le b 57

-- the value with one more digit
abbrev pub with_digit_of : ℕ → ℕ → ℕ
with_digit_of value digit = 10 * value + (digit - 48)

-- the value of decimal digits
unfoldable pub value_of : List ℕ → ℕ
value_of text = fold with_digit_of 0 text

-- at least one digit, and nothing else
abbrev pub is_count : List ℕ → Bool
is_count text = is_nonempty text && list_all is_digit text

-- the value of a text of digits
unfoldable pub count_of : List ℕ → Option ℕ
count_of text = if is_count text then Some (value_of text) else None

-- a zero stands before other bytes
abbrev pub leads_with_zero : List ℕ → Bool
leads_with_zero [] = false
leads_with_zero (b ∷ []) = false
leads_with_zero (b ∷ c ∷ text) = b == 48

-- the value of a text of digits in which no zero stands before others
unfoldable pub decimal_of : List ℕ → Option ℕ
decimal_of text = if leads_with_zero text then None else count_of text

-- a minus sign stands in front
abbrev pub is_negative : List ℕ → Bool
is_negative [] = false
is_negative (b ∷ text) = b == 45

-- the text behind a minus sign
abbrev pub without_minus : List ℕ → List ℕ
without_minus [] = []
without_minus (b ∷ text) = if b == 45 then text else b ∷ text

-- the number of this sign and size
abbrev pub signed : Bool → ℕ → ℤ
signed negative size = if negative then neg_ℤ (pos size) else pos size

-- a value, or 2^127 in place of each greater one
abbrev pub capped : ℕ → ℕ
capped n = min n (2 ^ 127)
