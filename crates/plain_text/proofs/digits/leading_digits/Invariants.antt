use Rattle.std.proofs.Common.{◌≡◌, true, take}
use Rattle.std.specs.List.{list_all}
use Rattle.plain_text.specs.Digits.{is_digit, value_of}
use Rattle.plain_text.proofs.digits.leading_digits.Given as goal

-- the value of the bytes before i, which are digits
abbrev pub invariant-digits : goal.invariant-digits
invariant-digits l = record {
  value : l.value ≡ value_of (take l.i l.text);
  digits : list_all is_digit (take l.i l.text) ≡ true;
}
