-- The limits of the header are so small that the cap on values changes no answer.
use Rattle.std.proofs.Common.{◌≡◌, ◌<◌, ◌+◌, ℕ, Bool, true, false, refl, arith, inl, inr}
use Rattle.std.specs.Prelude.{◌==◌, ◌||◌, nat_lt}
use Rattle.std.proofs.lemmas.Bool.{cases_lt}
use Rattle.std.proofs.lemmas.Bool.Decides.{nat_tests}
use Rattle.poly_model.specs.Limits.{most_columns, most_file_rows}
use Rattle.plain_text.specs.Digits.{capped}
use Rattle.poly_reader.specs.Header.{rows_within, width_within}
use Rattle.poly_reader.proofs.CappedValues.{small}

over : (most n : ℕ) → most < n → nat_lt most n ≡ true
over most n lt = grind (arith, nat_tests)

pub rows_capped : (line m : ℕ) → rows_within line (capped m) ≡ rows_within line m
rows_capped line m = elim (cases_lt m (most_file_rows + 1)) [
  | inl few ↦ rw (small m (omega arith)) refl
  | inr many ↦ rw (over most_file_rows (capped m) (omega arith), over most_file_rows m (omega arith)) refl
]

either : (b : Bool) → (b || true) ≡ true
either true = refl
either false = refl

pub width_capped : (line n : ℕ) → width_within line (capped n) ≡ width_within line n
width_capped line n = elim (cases_lt n (most_columns + 1)) [
  | inl narrow ↦ rw (small n (omega arith)) refl
  | inr wide ↦ rw (
    over most_columns (capped n) (omega arith),
    over most_columns n (omega arith),
    either (capped n == 0),
    either (n == 0),
  ) refl
]
