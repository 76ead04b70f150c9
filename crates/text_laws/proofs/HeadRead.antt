-- What stands before the rows is read: the kind, the rows that are linear, and how wide a row is.
use Rattle.std.proofs.Common.{◌≡◌, ◌<◌, ◌≤◌, ◌+◌, ◌^◌, ℕ, zero, suc, false, List, [], ◌∷◌, ◌++◌, None, Ok, refl, sym, ap, ◌∙◌, arith, append-nil}
use Rattle.std.specs.Prelude.{◌==◌, nat_lt, codes}
use Rattle.std.specs.Fmt.{decimal}
use Rattle.std.proofs.lemmas.Bool.{ne_eqb, le-ltb}
use Rattle.poly_model.specs.declared.kind.Kind.{Kind}
use Rattle.poly_model.specs.declared.kind.Kind.TheVariants.{H, V}
use Rattle.poly_model.specs.Limits.{most_columns}
use Rattle.poly_model.specs.Systems.{FileRow}
use Rattle.poly_reader.specs.Lines.{Word, Line, joined}
use Rattle.poly_reader.specs.Head.{Name, begins, head_of, line_fault, kind_after, names_on, names_of, nonnegative_line, nonnegative_line_of, opening_of}
use Rattle.poly_reader.specs.Header.{rows_announced, width_of, type_fault, size_of}
use Rattle.poly_reader.proofs.HeadLemmas.{IsAt, starts, goes_on, begun}
use Rattle.poly_reader.proofs.MarkLemmas.{at_begin, one_line}
use Rattle.poly_reader.proofs.NonnegativeLemmas as nonnegative
use Rattle.text_laws.specs.Listed.{other_kind}
use Rattle.plain_text.proofs.Decimals.{decimal_is, count_is, count_of_is}
use Rattle.text_laws.proofs.PlainWords.{numbered, numbered_lines}
use Rattle.text_laws.proofs.NamedRows.{row_names, names_read, counts_read, all_taken}
use Rattle.text_laws.proofs.MatrixRead.{matrix_lines, matrix_words, joined_matrix}
use Rattle.text_laws.proofs.ListingLines.{title_word, linearity_words, size_words, listing_words}

-- ---- the first line, and the line of linear rows

-- the first line
abbrev title : Kind → Line
title kind = numbered 1 (title_word kind ∷ [])

-- the second line, where there are linear rows
abbrev linearity : ℕ → Line
linearity k = numbered 2 (linearity_words k)

-- the lines from `begin` on, which has this number
abbrev body : ℕ → Kind → ℕ → List FileRow → List Line
body number kind n rows = numbered_lines number ((codes "begin" ∷ []) ∷ size_words n ∷ matrix_lines kind rows)

title_begins : (kind : Kind) → begins (title kind) ≡ false
title_begins H = refl
title_begins V = refl

title_passes : (kind : Kind) → line_fault (title kind) ≡ Ok tt
unfolding line_fault
title_passes H = refl
title_passes V = refl

title_says : (kind : Kind) → kind_after H (title kind) ≡ other_kind kind
title_says H = refl
title_says V = refl

title_names : (kind : Kind) → names_on (title kind) ≡ []
unfolding names_on
title_names H = refl
title_names V = refl

linearity_passes : (k : ℕ) → k + 1 < 2 ^ 127 → line_fault (linearity k) ≡ Ok tt
unfolding line_fault
linearity_passes k lt =
    let d = decimal_is k (omega arith) in
    rw (count_is k (decimal k) d, d.value, counts_read 2 1 k (omega arith)) refl

linearity_names : (k : ℕ) → k + 1 < 2 ^ 127 → names_on (linearity k) ≡ row_names 2 1 k
unfolding names_on
linearity_names k lt = rw ((decimal_is k (omega arith)).value, all_taken 2 1 k) (names_read 2 1 k (omega arith))

-- ---- the kind, and the words behind `begin`

-- the line that says how wide a row is
abbrev pub size_line_of : ℕ → ℕ
size_line_of zero = 3
size_line_of (suc k) = 4

-- the words behind `begin`, the first of them on this line
abbrev pub body_words : ℕ → Kind → ℕ → List FileRow → List Word
body_words number kind n rows = numbered number (size_words n) ++ matrix_words (number + 1) kind rows

behind_begin : (number : ℕ) (kind : Kind) (n : ℕ) (rows : List FileRow)
    → joined (numbered_lines number (size_words n ∷ matrix_lines kind rows)) ≡ body_words number kind n rows
behind_begin number kind n rows =
    ap (λ (l : List Word). numbered number (size_words n) ++ l) (joined_matrix (number + 1) kind rows)

begun_at : (last number : ℕ) (kind said : Kind) (n : ℕ) (rows : List FileRow) (all : List Line)
    → IsAt said (body number kind n rows) all
    → opening_of last all ≡ Ok (record { kind = said; words = body_words (number + 1) kind n rows })
begun_at last number kind said n rows all at =
    begun last said (body number kind n rows) all (numbered_lines (number + 1) (size_words n ∷ matrix_lines kind rows))
    (numbered number (codes "begin" ∷ [])) refl refl at
    ∙ rw (behind_begin (number + 1) kind n rows) refl

pub opening_read : (last : ℕ) (kind : Kind) (n k : ℕ) (rows : List FileRow) → k + 1 < 2 ^ 127
    → opening_of last (numbered_lines 1 (listing_words kind n k rows))
    ≡ Ok (record { kind = other_kind kind; words = body_words (size_line_of k) kind n rows })
opening_read last kind n zero rows lt =
    let all = title kind ∷ body 2 kind n rows in
    let first = goes_on H all all (body 2 kind n rows) (title kind) tt refl (title_begins kind) (title_passes kind)
    (starts all) in
    begun_at last 2 kind (other_kind kind) n rows all (rw (title_says kind) at first)
opening_read last kind n (suc k) rows lt =
    let front = linearity (suc k) ∷ body 3 kind n rows in
    let all = title kind ∷ front in
    let first = goes_on H all all front (title kind) tt refl (title_begins kind) (title_passes kind) (starts all) in
    let second =
    goes_on (other_kind kind) front all (body 3 kind n rows) (linearity (suc k)) tt refl refl
    (linearity_passes (suc k) lt) (rw (title_says kind) at first) in
    begun_at last 3 kind (other_kind kind) n rows all second

-- ---- the linear rows

body_names : (number : ℕ) (kind : Kind) (n : ℕ) (rows : List FileRow)
    → names_of (head_of (body number kind n rows)) ≡ []
body_names number kind n rows =
    at_begin (body number kind n rows) (numbered_lines (number + 1) (size_words n ∷ matrix_lines kind rows))
    (numbered number (codes "begin" ∷ [])) refl refl

pub names_are_read : (kind : Kind) (n k : ℕ) (rows : List FileRow) → k + 1 < 2 ^ 127
    → names_of (head_of (numbered_lines 1 (listing_words kind n k rows))) ≡ row_names 2 1 k
names_are_read kind n zero rows lt =
    one_line (title kind ∷ body 2 kind n rows) (body 2 kind n rows) (title kind) refl (title_begins kind)
    ∙ rw (title_names kind) (body_names 2 kind n rows)
names_are_read kind n (suc k) rows lt =
    let front = linearity (suc k) ∷ body 3 kind n rows in
    let second =
    one_line front (body 3 kind n rows) (linearity (suc k)) refl refl
    ∙ ap (λ (l : List Name). names_on (linearity (suc k)) ++ l) (body_names 3 kind n rows) in
    one_line (title kind ∷ front) front (title kind) refl (title_begins kind)
    ∙ rw (title_names kind, second, linearity_names (suc k) lt) (append-nil (row_names 2 1 (suc k)))

-- ---- no line `nonnegative`

title_not_nonnegative : (kind : Kind) → nonnegative_line (title kind) ≡ None
unfolding nonnegative_line
title_not_nonnegative H = refl
title_not_nonnegative V = refl

linearity_not_nonnegative : (k : ℕ) → nonnegative_line (linearity k) ≡ None
unfolding nonnegative_line
linearity_not_nonnegative k = refl

body_not_nonnegative : (number : ℕ) (kind : Kind) (n : ℕ) (rows : List FileRow)
    → nonnegative_line_of (head_of (body number kind n rows)) ≡ None
body_not_nonnegative number kind n rows =
    nonnegative.at_begin (body number kind n rows) (numbered_lines (number + 1) (size_words n ∷ matrix_lines kind rows))
    (numbered number (codes "begin" ∷ [])) refl refl

pub nothing_nonnegative : (kind : Kind) (n k : ℕ) (rows : List FileRow)
    → nonnegative_line_of (head_of (numbered_lines 1 (listing_words kind n k rows))) ≡ None
nothing_nonnegative kind n zero rows =
    sym (nonnegative.goes_on (title kind ∷ body 2 kind n rows) (body 2 kind n rows) (title kind) refl (title_begins kind)
    (title_not_nonnegative kind))
    ∙ body_not_nonnegative 2 kind n rows
nothing_nonnegative kind n (suc k) rows =
    let front = linearity (suc k) ∷ body 3 kind n rows in
    sym (nonnegative.goes_on (title kind ∷ front) front (title kind) refl (title_begins kind) (title_not_nonnegative kind))
    ∙ sym (nonnegative.goes_on front (body 3 kind n rows) (linearity (suc k)) refl refl (linearity_not_nonnegative (suc k)))
    ∙ body_not_nonnegative 3 kind n rows

-- ---- the width

pub size_read : (last number n : ℕ) (words : List Word) → 0 < n → n ≤ most_columns
    → size_of last (numbered number (size_words n) ++ words) ≡ Ok (record { rows = None; width = n; words = words })
unfolding size_of rows_announced width_of type_fault
size_read last number n words lt le =
    let some : (n == 0) ≡ false = ne_eqb n 0 (λ e. omega arith) in
    let within : nat_lt most_columns n ≡ false = le-ltb most_columns n le in
    rw (count_of_is n (decimal n) (decimal_is n (omega arith)), some, within) refl
