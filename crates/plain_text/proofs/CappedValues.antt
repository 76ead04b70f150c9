-- The value of digits, capped: one more digit.
use Rattle.std.proofs.Common.{◌≡◌, ◌<◌, ◌+◌, ℕ, Bool, true, false, List, [], ◌∷◌, length, take, get_or, refl, sym, arith}
use Rattle.std.specs.Prelude.{◌==◌, not}
use Rattle.std.proofs.lemmas.Bool.{eqb-true}
use Rattle.std.proofs.lemmas.List.Sums.{fold_more}
use Rattle.plain_text.specs.Digits.{is_nonempty, with_digit_of, value_of, capped}

pub no_length : (word : List ℕ) (b : Bool) → b ≡ (length word == 0) → is_nonempty word ≡ not b
no_length [] true e = refl
no_length [] false e = absurd cc
no_length (x ∷ word) true e = let h = eqb-true (length (x ∷ word)) 0 (sym e) in absurd (omega arith)
no_length (x ∷ word) false e = refl

capped_digit : (v d : ℕ) → capped (with_digit_of (capped v) d) ≡ capped (with_digit_of v d)
capped_digit v d = omega arith

pub value_more : (digits : List ℕ) (i d : ℕ) → i < length digits
    → capped (with_digit_of (capped (value_of (take i digits))) (get_or digits i d))
    ≡ capped (value_of (take (i + 1) digits))
unfolding value_of
value_more digits i d lt =
    rw (fold_more with_digit_of 0 digits i d lt) (capped_digit (value_of (take i digits)) (get_or digits i d))
