-- The words of printed rows, with the word `end` behind them, are read as the matrix of these rows.
use Rattle.std.proofs.Common.{◌≡◌, ◌≤◌, ◌+◌, ◌*◌, ◌%◌, ℕ, suc, true, false, List, [], ◌∷◌, ◌++◌, None, Ok, length, drop, map, refl, sym, ap, subst, ◌∙◌, arith}
use Rattle.std.specs.Prelude.{◌==◌, codes}
use Rattle.std.specs.List.{AllByRecursion}
use Rattle.std.proofs.lemmas.Bool.{eq-eqb, ne_eqb}
use Rattle.std.proofs.Math.Nat.{suc-mul}
use Rattle.poly_num.specs.Fractions.{Fraction}
use Rattle.poly_model.specs.declared.kind.Kind.{Kind}
use Rattle.poly_model.specs.Limits.{most_file_rows}
use Rattle.poly_model.specs.Systems.{FileRow}
use Rattle.poly_reader.specs.Lines.{Word, joined}
use Rattle.poly_reader.specs.Matrix.{matrix_of}
use Rattle.poly_reader.specs.Rows.{numbers_in, rows_from}
use Rattle.poly_reader.proofs.MatrixLemmas.{at_end, one_number}
use Rattle.text_laws.specs.Listed.{other_kind}
use Rattle.text_laws.proofs.PlainWords.{numbered, numbered_lines}
use Rattle.text_laws.proofs.NumberTexts.{number_word, IsPrintable, number_read, number_word_not_end}
use Rattle.text_laws.proofs.PrintedRows.{row_fractions, words_of}
use Rattle.text_laws.proofs.ReadRows.{IsReadRow}

-- ---- the words

-- the words of a row
abbrev pub row_words : Kind → FileRow → List (List ℕ)
row_words kind row = words_of (row_fractions kind row.entries)

-- the words of each row, and the last one
abbrev pub matrix_lines : Kind → List FileRow → List (List (List ℕ))
matrix_lines kind [] = (codes "end" ∷ []) ∷ []
matrix_lines kind (row ∷ rows) = row_words kind row ∷ matrix_lines kind rows

-- the same words in one list, from the line with this number on
abbrev pub matrix_words : ℕ → Kind → List FileRow → List Word
matrix_words number kind [] = record { text = codes "end"; line = number } ∷ []
matrix_words number kind (row ∷ rows) = numbered number (row_words kind row) ++ matrix_words (number + 1) kind rows

pub joined_matrix : (number : ℕ) (kind : Kind) (rows : List FileRow)
    → joined (numbered_lines number (matrix_lines kind rows)) ≡ matrix_words number kind rows
joined_matrix number kind [] = refl
joined_matrix number kind (row ∷ rows) =
    ap (λ (l : List Word). numbered number (row_words kind row) ++ l) (joined_matrix (number + 1) kind rows)

-- ---- the numbers of a row

numbers_read : (last number : ℕ) (row : List Fraction) (rest : List Word) → AllByRecursion IsPrintable row
    → numbers_in last (length row) (numbered number (words_of row) ++ rest) ≡ Ok row
unfolding numbers_in
numbers_read last number [] rest h = refl
numbers_read last number (f ∷ row) rest h = rw (number_read f h.0, numbers_read last number row rest h.1) refl

rest_left : (number : ℕ) (row : List Fraction) (rest : List Word)
    → drop (length row) (numbered number (words_of row) ++ rest) ≡ rest
rest_left number [] rest = refl
rest_left number (f ∷ row) rest = rest_left number row rest

-- ---- the rows

pub rows_read : (last number n : ℕ) (kind : Kind) (rows : List FileRow) → AllByRecursion (IsReadRow kind n) rows
    → rows_from last (other_kind kind) n (map (λ (row : FileRow). row.linear) rows) (matrix_words number kind rows)
    ≡ Ok rows
unfolding rows_from
rows_read last number n kind [] h = refl
rows_read last number n kind (row ∷ rows) h =
    let fs = row_fractions kind row.entries in
    let rest = matrix_words (number + 1) kind rows in
    let numbers : numbers_in last n (numbered number (words_of fs) ++ rest) ≡ Ok fs =
    subst (λ (w : ℕ). numbers_in last w (numbered number (words_of fs) ++ rest) ≡ Ok fs) h.0.width
    (numbers_read last number fs rest h.0.printable) in
    let left : drop n (numbered number (words_of fs) ++ rest) ≡ rest =
    subst (λ (w : ℕ). drop w (numbered number (words_of fs) ++ rest) ≡ rest) h.0.width (rest_left number fs rest) in
    rw (numbers, h.0.read, left, rows_read last (number + 1) n kind rows h.1) refl

-- ---- how many numbers there are

row_counted : (last n count number : ℕ) (row : List Fraction) (rest : List Word) → AllByRecursion IsPrintable row
    → count + length row ≤ most_file_rows * n
    → matrix_of last None n count (numbered number (words_of row) ++ rest)
    ≡ matrix_of last None n (count + length row) rest
row_counted last n count number [] rest h le =
    ap (λ (c : ℕ). matrix_of last None n c rest) (by count)
  where
    by : (c : ℕ) → c ≡ c + 0
    by c = omega arith
row_counted last n count number (f ∷ row) rest h le =
    let w : Word = record { text = number_word f; line = number } in
    let words = numbered number (words_of row) ++ rest in
    let below : (count == most_file_rows * n) ≡ false = ne_eqb count (most_file_rows * n) (λ e. omega arith) in
    sym (one_number last None n count w (w ∷ words) words refl (number_word_not_end f h.0) below
    (rw (number_read f h.0) refl))
    ∙ row_counted last n (count + 1) number row rest h.1 (omega arith)
    ∙ ap (λ (c : ℕ). matrix_of last None n c rest) (by count (length row))
  where
    by : (c d : ℕ) → c + 1 + d ≡ c + suc d
    by c d = omega arith

pub matrix_read : (last n count number : ℕ) (kind : Kind) (rows : List FileRow) → AllByRecursion (IsReadRow kind n) rows
    → count + length rows * n ≤ most_file_rows * n → (count + length rows * n) % n ≡ 0
    → matrix_of last None n count (matrix_words number kind rows)
    ≡ Ok (record { count = count + length rows * n; end_line = number + length rows; words = [] })
matrix_read last n count number kind [] h le whole =
    let c : count + 0 * n ≡ count = omega arith in
    let l : number + 0 ≡ number = omega arith in
    let e : (count % n == 0) ≡ true = eq-eqb (count % n) 0 (rw c at whole) in
    at_end last None n count (record { text = codes "end"; line = number }) (matrix_words number kind []) [] refl refl
    ∙ rw (e, c, l) refl
matrix_read last n count number kind (row ∷ rows) h le whole =
    let s = suc-mul (length rows) n in
    let c : count + suc (length rows) * n ≡ count + n + length rows * n = omega arith in
    let l : number + suc (length rows) ≡ number + 1 + length rows = omega arith in
    let fs = row_fractions kind row.entries in
    let rest = matrix_words (number + 1) kind rows in
    let full : matrix_of last None n (count + length fs) rest ≡ matrix_of last None n (count + n) rest =
    ap (λ (w : ℕ). matrix_of last None n (count + w) rest) h.0.width in
    let more = matrix_read last n (count + n) (number + 1) kind rows h.1 (omega arith) (rw c at whole) in
    row_counted last n count number fs rest h.0.printable (omega (arith, h.0.width)) ∙ full ∙ rw (c, l) more
