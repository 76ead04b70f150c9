-- The text of a listing line by line: the lines, and the words of each.
use Rattle.std.proofs.Common.{◌≡◌, ◌<◌, ◌+◌, ◌^◌, ℕ, zero, suc, List, [], ◌∷◌, ◌++◌, length, map, refl, sym, ap, ◌∙◌, arith, append_assoc, append-nil, add-one}
use Rattle.std.specs.Prelude.{codes}
use Rattle.std.specs.Fmt.{decimal}
use Rattle.std.specs.List.{flat_map, AllByRecursion}
use Rattle.std.proofs.lemmas.List.Concat.{flat_map-append}
use Rattle.poly_num.specs.Vectors.{Vector}
use Rattle.poly_model.specs.declared.kind.Kind.{Kind}
use Rattle.poly_model.specs.declared.kind.Kind.TheVariants.{H, V}
use Rattle.poly_model.specs.Listing.{listing_text}
use Rattle.poly_model.specs.ListingText.{title_text, number_text, numbers_text, linearity_text, size_text, head_text, vector_text, row_text, end_text}
use Rattle.poly_model.specs.Systems.{FileRow}
use Rattle.poly_reader.specs.Lines.{pieces}
use Rattle.text_laws.specs.Listed.{BeginsAsLine, listed_rows, nonlinear_row}
use Rattle.text_laws.proofs.PlainWords.{IsPlainWord, HasWords, HaveWords, spaced, with_line_feeds, line_from_word, line_spaced}
use Rattle.text_laws.proofs.NumberTexts.{decimal_plain}
use Rattle.text_laws.proofs.PrintedRows.{row_line, words_plain}
use Rattle.text_laws.proofs.ReadRows.{IsReadRow, line_line}
use Rattle.text_laws.proofs.MatrixRead.{row_words, matrix_lines}
use Rattle.text_laws.proofs.NamedRows.{number_words}

-- ---- the lines and their words

-- the word of the first line
abbrev pub title_word : Kind → List ℕ
title_word H = codes "V-representation"
title_word V = codes "H-representation"

-- the line that names the first k rows
abbrev pub linearity_line : ℕ → List ℕ
linearity_line k = codes "linearity" ++ spaced (decimal k ∷ number_words 1 k)

abbrev pub linearity_words : ℕ → List (List ℕ)
linearity_words k = codes "linearity" ∷ decimal k ∷ number_words 1 k

-- the lines before `begin`, where k rows are linear
abbrev pub front_lines : Kind → ℕ → List (List ℕ)
front_lines kind zero = title_word kind ∷ []
front_lines kind (suc k) = title_word kind ∷ linearity_line (suc k) ∷ []

abbrev pub front_words : Kind → ℕ → List (List (List ℕ))
front_words kind zero = (title_word kind ∷ []) ∷ []
front_words kind (suc k) = (title_word kind ∷ []) ∷ linearity_words (suc k) ∷ []

-- the line before the rows
abbrev pub size_line : ℕ → List ℕ
size_line n = codes "*****" ++ spaced (decimal n ∷ codes "rational" ∷ [])

abbrev pub size_words : ℕ → List (List ℕ)
size_words n = codes "*****" ∷ decimal n ∷ codes "rational" ∷ []

-- the rows, and the last line
abbrev pub row_lines : Kind → List FileRow → List (List ℕ)
row_lines kind [] = codes "end" ∷ []
row_lines kind (row ∷ rows) = spaced (row_words kind row) ∷ row_lines kind rows

abbrev pub listing_lines : Kind → ℕ → ℕ → List FileRow → List (List ℕ)
listing_lines kind n k rows = front_lines kind k ++ codes "begin" ∷ size_line n ∷ row_lines kind rows

abbrev pub listing_words : Kind → ℕ → ℕ → List FileRow → List (List (List ℕ))
listing_words kind n k rows = front_words kind k ++ (codes "begin" ∷ []) ∷ size_words n ∷ matrix_lines kind rows

-- ---- the text has these lines

numbers_spaced : (i k : ℕ) → numbers_text i k ≡ spaced (number_words i k)
unfolding numbers_text number_text
numbers_spaced i zero = refl
numbers_spaced i (suc k) =
    rw (add-one i) (ap (λ (l : List ℕ). (32 ∷ decimal i) ++ l) (numbers_spaced (suc i) k))

linearity_ended : (k : ℕ) → linearity_text (suc k) ≡ linearity_line (suc k) ++ 10 ∷ []
unfolding linearity_text
linearity_ended k = rw (numbers_spaced 1 (suc k)) refl

front_ended : (kind : Kind) (k : ℕ) → title_text kind ++ linearity_text k ≡ with_line_feeds (front_lines kind k)
unfolding title_text linearity_text
front_ended H zero = refl
front_ended V zero = refl
front_ended H (suc k) = rw (linearity_ended k, append-nil (linearity_line (suc k) ++ 10 ∷ [])) refl
front_ended V (suc k) = rw (linearity_ended k, append-nil (linearity_line (suc k) ++ 10 ∷ [])) refl

size_ended : (n : ℕ) → size_text n ≡ with_line_feeds (codes "begin" ∷ size_line n ∷ [])
unfolding size_text
size_ended n = simp append_assoc

others_ended : (kind : Kind) (shown : List Vector)
    → flat_map (row_text kind) shown ++ end_text ≡ with_line_feeds (row_lines kind (map nonlinear_row shown))
unfolding end_text
others_ended kind [] = refl
others_ended kind (v ∷ shown) =
    append_assoc (row_text kind v) (flat_map (row_text kind) shown) end_text
    ∙ rw (others_ended kind shown, row_line kind v) refl

rows_ended : (kind : Kind) (lines shown : List Vector) → AllByRecursion (BeginsAsLine kind) lines
    → flat_map vector_text lines ++ (flat_map (row_text kind) shown ++ end_text)
    ≡ with_line_feeds (row_lines kind (listed_rows lines shown))
rows_ended kind [] shown h = others_ended kind shown
rows_ended kind (v ∷ lines) shown h =
    append_assoc (vector_text v) (flat_map vector_text lines) (flat_map (row_text kind) shown ++ end_text)
    ∙ rw (rows_ended kind lines shown h.1, line_line kind v h.0) refl

in_parts : (f s r f' s' r' : List ℕ) → f ≡ f' → s ≡ s' → r ≡ r' → (f ++ s) ++ r ≡ f' ++ (s' ++ r')
in_parts f s r f' s' r' a b c = rw (a, b, c) (append_assoc f' s' r')

ended_both : (lines more : List (List ℕ))
    → with_line_feeds (lines ++ more) ≡ with_line_feeds lines ++ with_line_feeds more
ended_both lines more = flat_map-append (λ (line : List ℕ). line ++ 10 ∷ []) lines more

pub listing_ended : (kind : Kind) (n : ℕ) (lines shown : List Vector) → AllByRecursion (BeginsAsLine kind) lines
    → listing_text kind n lines shown ≡ with_line_feeds (listing_lines kind n (length lines) (listed_rows lines shown))
unfolding head_text
listing_ended kind n lines shown h =
    let k = length lines in
    let rows = row_lines kind (listed_rows lines shown) in
    in_parts (title_text kind ++ linearity_text k) (size_text n)
    (flat_map vector_text lines ++ (flat_map (row_text kind) shown ++ end_text))
    (with_line_feeds (front_lines kind k)) (with_line_feeds (codes "begin" ∷ size_line n ∷ [])) (with_line_feeds rows)
    (front_ended kind k) (size_ended n) (rows_ended kind lines shown h)
    ∙ ap (λ (l : List ℕ). with_line_feeds (front_lines kind k) ++ l)
    (sym (ended_both (codes "begin" ∷ size_line n ∷ []) rows))
    ∙ sym (ended_both (front_lines kind k) (codes "begin" ∷ size_line n ∷ rows))

-- ---- each line has its words

end_line_is : HasWords (codes "end" ∷ []) (codes "end")
unfolding pieces
end_line_is = record { inside = refl; words_are = refl }

row_lines_are : (kind : Kind) (n : ℕ) (rows : List FileRow) → AllByRecursion (IsReadRow kind n) rows
    → HaveWords (matrix_lines kind rows) (row_lines kind rows)
row_lines_are kind n [] h = (end_line_is, tt)
row_lines_are kind n (row ∷ rows) h =
    (line_spaced (row_words kind row) (words_plain _ h.0.printable), row_lines_are kind n rows h.1)

title_line_is : (kind : Kind) → HasWords (title_word kind ∷ []) (title_word kind)
unfolding pieces
title_line_is H = record { inside = refl; words_are = refl }
title_line_is V = record { inside = refl; words_are = refl }

numbers_plain : (i k : ℕ) → i + k < 2 ^ 127 → AllByRecursion IsPlainWord (number_words i k)
numbers_plain i zero lt = tt
numbers_plain i (suc k) lt = (decimal_plain i (omega arith), numbers_plain (i + 1) k (omega arith))

linearity_line_is : (k : ℕ) → k + 1 < 2 ^ 127 → HasWords (linearity_words k) (linearity_line k)
linearity_line_is k lt =
    line_from_word (codes "linearity") (decimal k ∷ number_words 1 k) (record { some = refl; bytes = refl })
    (decimal_plain k (omega arith), numbers_plain 1 k (omega arith))

begin_line_is : HasWords (codes "begin" ∷ []) (codes "begin")
unfolding pieces
begin_line_is = record { inside = refl; words_are = refl }

size_line_is : (n : ℕ) → n < 2 ^ 127 → HasWords (size_words n) (size_line n)
size_line_is n lt =
    line_from_word (codes "*****") (decimal n ∷ codes "rational" ∷ []) (record { some = refl; bytes = refl })
    (decimal_plain n lt, (record { some = refl; bytes = refl }, tt))

front_lines_are : (kind : Kind) (k : ℕ) (words : List (List (List ℕ))) (lines : List (List ℕ)) → k + 1 < 2 ^ 127
    → HaveWords words lines → HaveWords (front_words kind k ++ words) (front_lines kind k ++ lines)
front_lines_are kind zero words lines lt h = (title_line_is kind, h)
front_lines_are kind (suc k) words lines lt h = (title_line_is kind, (linearity_line_is (suc k) lt, h))

pub listing_lines_are : (kind : Kind) (n k : ℕ) (rows : List FileRow) → n < 2 ^ 127 → k + 1 < 2 ^ 127
    → AllByRecursion (IsReadRow kind n) rows → HaveWords (listing_words kind n k rows) (listing_lines kind n k rows)
listing_lines_are kind n k rows ln lk h =
    front_lines_are kind k ((codes "begin" ∷ []) ∷ size_words n ∷ matrix_lines kind rows)
    (codes "begin" ∷ size_line n ∷ row_lines kind rows) lk
    (begin_line_is, (size_line_is n ln, row_lines_are kind n rows h))
