-- The cap on a value changes no number.
use Rattle.std.proofs.Common.{◌≡◌, ◌<◌, ◌≤◌, ◌+◌, ◌^◌, ℕ, zero, suc, Bool, true, false, Option, Some, None, List, drop, refl, sym, ◌∙◌, inl, inr, arith}
use Rattle.std.specs.Prelude.{◌==◌, ◌||◌, option_map, position}
use Rattle.std.proofs.lemmas.Bool.{ne_eqb, cases_lt, le-leb}
use Rattle.std.proofs.lemmas.List.Folds.{list_any_at, list_any_none}
use Rattle.plain_text.specs.Digits.{count_of, capped}
use Rattle.poly_reader.specs.Grammar.{is_slash, denominator_of, is_wide}
use Rattle.poly_reader.specs.Matrix.{sizes_of}
use Rattle.plain_text.proofs.Positions.{position_some, passes, none_passes}

zero_capped : (q : ℕ) → (capped q == 0) ≡ (q == 0)
zero_capped zero = refl
zero_capped (suc q) =
    ne_eqb (capped (suc q)) 0 (λ e. absurd (omega arith)) ∙ sym (ne_eqb (suc q) 0 (λ e. absurd (omega arith)))

pub small : (q : ℕ) → q < 2 ^ 127 → capped q ≡ q
small q lt = omega arith

wide : (q : ℕ) → 2 ^ 127 ≤ q → is_wide q ≡ true
wide q le = le-leb (2 ^ 127) q le

either : (b : Bool) → (b || true) ≡ true
either true = refl
either false = refl

-- a value that is capped is too wide in any case
pub sizes_capped : (above below : Option ℕ)
    → sizes_of (option_map capped above) (option_map capped below) ≡ sizes_of above below
sizes_capped None b = refl
sizes_capped (Some p) None = refl
sizes_capped (Some p) (Some q) = elim (cases_lt p (2 ^ 127)) [
  | inl lt ↦ elim (cases_lt q (2 ^ 127)) [
    | inl below ↦ rw (small p lt, small q below) refl
    | inr above ↦ rw (zero_capped q, wide (capped q) (omega arith), wide q above, small p lt, either) refl
  ]
  | inr le ↦ rw (zero_capped q, wide (capped p) (omega arith), wide p le) refl
]

pub denominator_some : (word : List ℕ) (n : ℕ) → position is_slash word ≡ Some n
    → count_of (drop (n + 1) word) ≡ denominator_of word
denominator_some word n e =
    let f = position_some is_slash word n e in
    rw (list_any_at is_slash word n 0 f.within (passes is_slash word n 0 f), f.is) refl

pub denominator_none : (word : List ℕ) → position is_slash word ≡ None → Some 1 ≡ denominator_of word
denominator_none word e = rw (list_any_none is_slash word (none_passes is_slash word e)) refl
