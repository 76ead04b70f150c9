-- The value of a text of digits that was gone through once.
use Rattle.std.proofs.Common.{◌≡◌, ◌<◌, ◌≤◌, ℕ, true, Some, List, [], ◌∷◌, length, take, refl, arith, length-take-le}
use Rattle.std.specs.List.{list_all}
use Rattle.std.proofs.lemmas.List.{take_all}
use Rattle.plain_text.specs.Digits.{is_digit, value_of, count_of}

-- v is the value of a text of digits
pub record IsValue (v : ℕ) (text : List ℕ) : Type 0 where
  pub digits : list_all is_digit text ≡ true
  pub value : v ≡ value_of text
  pub some : 0 < length text

pub count_of_value : (v : ℕ) (text : List ℕ) → IsValue v text → count_of text ≡ Some v
unfolding count_of
count_of_value v [] h = absurd (omega (arith, h.some))
count_of_value v (b ∷ text) h = rw (h.digits, ← h.value) refl

-- the first n bytes of a text are digits, and v is their value
pub taken : (v n : ℕ) (text : List ℕ) → v ≡ value_of (take n text) → list_all is_digit (take n text) ≡ true
    → n ≤ length text → (n ≡ 0 → ⊥) → IsValue v (take n text)
taken v n text value digits le some =
    record { digits = digits; value = value; some = omega (arith, length-take-le n text le) }

pub all_taken : (v n : ℕ) (text : List ℕ) → v ≡ value_of (take n text) → list_all is_digit (take n text) ≡ true
    → n ≤ length text → (n ≡ 0 → ⊥) → length text ≤ n → IsValue v text
all_taken v n text value digits le some all =
    rw (take_all n text all) at (taken v n text value digits le some)
