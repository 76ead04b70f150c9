use Rattle.std.proofs.Common.{◌≡◌, take}
use Rattle.plain_text.specs.Digits.{capped, value_of}
use Rattle.plain_text.proofs.digits.value.Given as goal

-- the value of the digits before b-index
abbrev pub invariant-digits : goal.invariant-digits
invariant-digits l = l.value ≡ capped (value_of (take l.b-index l.digits))
