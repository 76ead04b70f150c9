-- The first k rows, named by their numbers, are the linear ones.
use Rattle.std.proofs.Common.{◌≡◌, ◌<◌, ◌≤◌, ◌+◌, ◌^◌, ℕ, zero, suc, Bool, true, false, List, [], ◌∷◌, Ok, length, map, take, refl, inl, inr, arith}
use Rattle.std.specs.Prelude.{◌==◌, nat_lt}
use Rattle.std.specs.Fmt.{decimal}
use Rattle.std.specs.List.{range_with_len}
use Rattle.std.proofs.lemmas.Bool.{eq-eqb, ne_eqb, le-ltb, cases_eq, or_left, or_right}
use Rattle.poly_num.specs.Vectors.{Vector}
use Rattle.poly_model.specs.Systems.{FileRow}
use Rattle.poly_reader.specs.FirstFault.{each}
use Rattle.poly_reader.specs.Head.{Name, name_at, are_counts}
use Rattle.poly_reader.specs.Marks.{name_fault, is_named, checked_marks}
use Rattle.text_laws.specs.Listed.{nonlinear_row, listed_rows}
use Rattle.plain_text.proofs.Decimals.{decimal_is, count_is}
use Rattle.text_laws.proofs.PlainWords.{numbered}

-- k rows from row i on, named on this line
abbrev pub row_names : ℕ → ℕ → ℕ → List Name
row_names line i k = map (λ (row : ℕ). record { row = row; line = line }) (range_with_len i k)

-- k numbers from i on as words
abbrev pub number_words : ℕ → ℕ → List (List ℕ)
number_words i k = map decimal (range_with_len i k)

-- ---- the words name the rows

pub names_read : (line i k : ℕ) → i + k < 2 ^ 127
    → map (name_at line) (numbered line (number_words i k)) ≡ row_names line i k
names_read line i zero lt = refl
names_read line i (suc k) lt = rw ((decimal_is i (omega arith)).value, names_read line (i + 1) k (omega arith)) refl

pub counts_read : (line i k : ℕ) → i + k < 2 ^ 127 → are_counts k (numbered line (number_words i k)) ≡ true
unfolding are_counts
counts_read line i zero lt = refl
counts_read line i (suc k) lt =
    rw (count_is i (decimal i) (decimal_is i (omega arith))) (counts_read line (i + 1) k (omega arith))

pub all_taken : (line i k : ℕ) → take k (numbered line (number_words i k)) ≡ numbered line (number_words i k)
all_taken line i zero = refl
all_taken line i (suc k) = rw (all_taken line (i + 1) k) refl

-- ---- the names are rows

names_pass : (m line i k : ℕ) → 0 < i → i + k ≤ m + 1 → each (name_fault m) (row_names line i k) ≡ Ok tt
unfolding each name_fault
names_pass m line i zero lt le = refl
names_pass m line i (suc k) lt le =
    let some : (i == 0) ≡ false = ne_eqb i 0 (λ e. omega arith) in
    let within : nat_lt m i ≡ false = le-ltb m i (omega arith) in
    rw (some, within) (names_pass m line (i + 1) k (omega arith) (omega arith))

is_named_from : (line i k row : ℕ) → i ≤ row → row < i + k → is_named (row_names line i k) row ≡ true
is_named_from line i zero row le lt = absurd (omega arith)
is_named_from line i (suc k) row le lt = elim (cases_eq i row) [
  | inl e ↦ or_left (i == row) (is_named (row_names line (i + 1) k) row) (eq-eqb i row e)
  | inr n ↦ or_right (i == row) (is_named (row_names line (i + 1) k) row)
      (is_named_from line (i + 1) k row (omega (arith, n)) (omega arith))
]

not_named_behind : (line i k row : ℕ) → i + k ≤ row → is_named (row_names line i k) row ≡ false
not_named_behind line i zero row le = refl
not_named_behind line i (suc k) row le =
    rw (ne_eqb i row (λ e. omega arith)) (not_named_behind line (i + 1) k row (omega arith))

-- ---- their marks

marks_of_others : (f : ℕ → Bool) (i : ℕ) (shown : List Vector) → ((row : ℕ) → i ≤ row → f row ≡ false)
    → map f (range_with_len i (length (map nonlinear_row shown)))
    ≡ map (λ (row : FileRow). row.linear) (map nonlinear_row shown)
marks_of_others f i [] h = refl
marks_of_others f i (v ∷ shown) h =
    rw (h i (omega arith), marks_of_others f (i + 1) shown (λ row le. h row (omega arith))) refl

marks_of_rows : (f : ℕ → Bool) (i : ℕ) (lines shown : List Vector)
    → ((row : ℕ) → i ≤ row → row < i + length lines → f row ≡ true)
    → ((row : ℕ) → i + length lines ≤ row → f row ≡ false)
    → map f (range_with_len i (length (listed_rows lines shown)))
    ≡ map (λ (row : FileRow). row.linear) (listed_rows lines shown)
marks_of_rows f i [] shown h k = marks_of_others f i shown (λ row le. k row (omega arith))
marks_of_rows f i (v ∷ lines) shown h k =
    rw (
      h i (omega arith) (omega arith),
      marks_of_rows f (i + 1) lines shown (λ row le lt. h row (omega arith) (omega arith))
          (λ row le. k row (omega arith)),
    ) refl

pub marks_read : (m line : ℕ) (lines shown : List Vector) → m ≡ length (listed_rows lines shown) → length lines ≤ m
    → checked_marks m (row_names line 1 (length lines))
    ≡ Ok (map (λ (row : FileRow). row.linear) (listed_rows lines shown))
unfolding checked_marks
marks_read m line lines shown e le =
    let k = length lines in
    let marks = marks_of_rows (is_named (row_names line 1 k)) 1 lines shown
    (λ row from below. is_named_from line 1 k row from below) (λ row behind. not_named_behind line 1 k row behind) in
    rw (names_pass m line 1 k (omega arith) (omega arith), e, marks) refl
