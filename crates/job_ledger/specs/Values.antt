-- The number that digits say.
use Rattle.std.specs.Prelude.{◌+◌, ◌*◌, ◌-◌, ℕ, List}
use Rattle.std.specs.List.{fold}

-- one digit more; 48 is the digit 0
abbrev pub with_digit : ℕ → ℕ → ℕ
with_digit value digit = 10 * value + (digit - 48)

unfoldable pub decimal_value : List ℕ → ℕ
decimal_value text = fold with_digit 0 text
