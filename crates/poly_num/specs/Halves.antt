-- Numbers that fit half a machine word.
use Rattle.std.specs.Prelude.{ℤ, ◌<◌, ◌^◌, unsigned_abs}

-- the size is at most 2 ^ 31 - 1: products of two, and their differences, fit a machine word
abbrev pub IsHalf : ℤ → Type 0
IsHalf z = unsigned_abs z < 2 ^ 31
