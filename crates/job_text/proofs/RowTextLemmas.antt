-- The rows that a text shows are those of its lines.
use Rattle.std.proofs.Common.{◌≡◌, ◌++◌, ℕ, ℤ, false, List, [], ◌∷◌, map, drop, Option, refl, sym, ap, ap₂, ◌∙◌, inl, arith, append-nil, unsigned_abs}
use Rattle.std.specs.Prelude.{codes, ◌==◌}
use Rattle.std.specs.Fmt.{signed_decimal}
use Rattle.std.specs.List.{All, AllByRecursion, slice_split, filter}
use Rattle.std.specs.Option.{option_map_or}
use Rattle.std.proofs.lemmas.Bool.{ne_eqb}
use Rattle.std.proofs.lemmas.List.Elements.{All-from_recursion}
use Rattle.std.proofs.lemmas.List.Splits.{slice_split_none, slice_split_at}
use Rattle.plain_text.specs.Cuts.{is_newline, is_space, Lacks, CutsLine}
use Rattle.plain_text.specs.Digits.{decimal_of, is_negative, without_minus, signed}
use Rattle.plain_text.proofs.CutLemmas.{lacks_tested}
use Rattle.plain_text.proofs.NumberLemmas.{uncapped, reads_signed, is_signed, signed_decimal_tells, signed_is_num, signed_lacks}
use Rattle.poly_num.specs.Numbers.{IsNum}
use Rattle.poly_num.specs.Vectors.{Vector}
use Rattle.poly_model.specs.ListingText.{entries_text, entry_text}
use Rattle.work_core.specs.ReplyLines.{ReplyLine, row_line, job_line, line_text, lines_text, rows_in_lines}
use Rattle.job_text.specs.Fits.{said_text}
use Rattle.job_text.specs.LineTexts.{IsReplyLine}
use Rattle.job_text.specs.RowTexts.{decimal_number, entries_in, is_row_line, shown_rows}
use Rattle.job_text.proofs.ReplyLemmas.{line_is_said, said_behind, line_lacks}

-- ---- one row

-- a number is read from its text
number_is : (y : ℤ) → IsNum y → decimal_number (signed_decimal y) ≡ y
number_is y h =
    let word = signed_decimal y in
    let reads = reads_signed word y h refl in
    let size = uncapped (decimal_of (without_minus word)) (unsigned_abs y) reads.0 h in
    let same : word ≡ signed_decimal (signed (is_negative word) (unsigned_abs y)) =
    is_signed word (unsigned_abs y) reads.0 h reads.1 in
    ap (λ (o : Option ℕ). signed (is_negative word) (option_map_or (λ (n : ℕ). n) o 0)) size
    ∙ sym (signed_decimal_tells y _ h (signed_is_num (is_negative word) (unsigned_abs y) h) same)

lacking : (byte : ℕ) (text : List ℕ) → Lacks byte text → All (λ b. (b == byte) ≡ false) text
lacking byte text h = All-from_recursion (λ b. (b == byte) ≡ false) text (by text h)
  where
    by : (text : List ℕ) → Lacks byte text → AllByRecursion (λ b. (b == byte) ≡ false) text
    by [] h = tt
    by (b ∷ text) h = (ne_eqb b byte h.0, by text h.1)

-- the words of a line
words_are : (word : List ℕ) (v : Vector) → Lacks 32 word → AllByRecursion IsNum v →
    slice_split is_space (word ++ entries_text v) ≡ word ∷ map signed_decimal v
unfolding entries_text entry_text
words_are word [] lacks h =
    ap (slice_split is_space) (append-nil word) ∙ slice_split_none is_space word (lacking 32 word lacks)
words_are word (y ∷ v) lacks h =
    slice_split_at is_space word 32 (signed_decimal y ++ entries_text v) (lacking 32 word lacks) refl
    ∙ ap (λ (l : List (List ℕ)). word ∷ l) (words_are (signed_decimal y) v (signed_lacks 32 y h.0 (omega arith)) h.1)

numbers_are_read : (v : Vector) → AllByRecursion IsNum v → map decimal_number (map signed_decimal v) ≡ v
numbers_are_read [] h = refl
numbers_are_read (y ∷ v) h = ap₂ (λ (x : ℤ) (l : Vector). x ∷ l) (number_is y h.0) (numbers_are_read v h.1)

numbers_are : (v : Vector) → AllByRecursion IsNum v → entries_in (codes "row" ++ entries_text v) ≡ v
numbers_are v h =
    ap (λ (l : List (List ℕ)). map decimal_number (drop 1 l)) (words_are (codes "row") v (lacks_tested 32 (codes "row") refl) h)
    ∙ numbers_are_read v h

-- ---- one line

split_at_line : (line rest : List ℕ) → Lacks 10 line →
    slice_split is_newline (line ++ 10 ∷ rest) ≡ line ∷ slice_split is_newline rest
split_at_line line rest lacks = slice_split_at is_newline line 10 rest (lacking 10 line lacks) refl

-- the rows of a text whose first line shows one
pub row_first : (text line rest : List ℕ) (v : Vector) → CutsLine text line rest → AllByRecursion IsNum v →
    line ≡ said_text (inl (row_line v)) → shown_rows text ≡ v ∷ shown_rows rest
unfolding shown_rows
row_first text line rest v cut nums is =
    ap shown_rows cut.whole ∙ ap (λ (l : List (List ℕ)). map entries_in (filter is_row_line l)) (split_at_line line rest cut.lacks)
    ∙ ap (λ (l : List ℕ). map entries_in (filter is_row_line (l ∷ slice_split is_newline rest))) is
    ∙ ap (λ (w : Vector). w ∷ shown_rows rest) (numbers_are v nums)

-- of one whose first line shows none
no_row_first : (text line rest : List ℕ) → CutsLine text line rest → is_row_line line ≡ false → shown_rows text ≡ shown_rows rest
unfolding shown_rows
no_row_first text line rest cut none =
    ap shown_rows cut.whole ∙ ap (λ (l : List (List ℕ)). map entries_in (filter is_row_line l)) (split_at_line line rest cut.lacks)
    ∙ rw none refl

pub key_first : (text line rest key : List ℕ) → CutsLine text line rest → line ≡ said_text (inl (job_line key)) →
    shown_rows text ≡ shown_rows rest
key_first text line rest key cut is = no_row_first text line rest cut (ap is_row_line is)

-- ---- all lines

-- the rows of the text of lines that fit
no_rows : shown_rows [] ≡ []
unfolding shown_rows
no_rows = refl

pub rows_are : (n : ℕ) (lines : List ReplyLine) → AllByRecursion (IsReplyLine n) lines → shown_rows (lines_text lines) ≡ rows_in_lines lines
rows_are n [] h = no_rows
rows_are n (l ∷ lines) h = by l h.0 ∙ more l (rows_are n lines h.1)
  where
    cut : (l : ReplyLine) → IsReplyLine n l → CutsLine (line_text l ++ lines_text lines) (said_text (inl l)) (lines_text lines)
    cut l fit = record {
      whole = said_behind (said_text (inl l)) (lines_text lines) (line_is_said l);
      lacks = line_lacks n l fit;
    }

    next : ReplyLine → List Vector → List Vector
    next (row_line v) rows = v ∷ rows
    next (job_line key) rows = rows

    by : (l : ReplyLine) → IsReplyLine n l → shown_rows (line_text l ++ lines_text lines) ≡ next l (shown_rows (lines_text lines))
    by (row_line v) fit = row_first _ _ _ v (cut (row_line v) fit) fit.2 refl
    by (job_line key) fit = key_first _ _ _ key (cut (job_line key) fit) refl

    more : (l : ReplyLine) → shown_rows (lines_text lines) ≡ rows_in_lines lines →
        next l (shown_rows (lines_text lines)) ≡ rows_in_lines (l ∷ lines)
    more (row_line v) e = ap (λ (rows : List Vector). v ∷ rows) e
    more (job_line key) e = e
