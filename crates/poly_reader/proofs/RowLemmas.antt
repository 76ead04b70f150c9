-- The numbers of a row one after the other, and the rows one after the other.
use Rattle.std.proofs.Common.{◌≡◌, ◌<◌, ◌≤◌, ◌+◌, ◌-◌, ◌*◌, ℕ, zero, suc, Bool, false, List, [], ◌∷◌, ◌++◌, Result, Ok, Err, length, take, drop, get_or, refl, sym, ap, ◌∙◌, arith, append_assoc, append-nil, length-append, length-drop, drop-cons, add-one}
use Rattle.std.proofs.Math.Nat.{suc-mul}
use Rattle.std.proofs.lemmas.List.{take_more, take_all, drop_all, take-append-le, drop-append-le, length-take-le}
use Rattle.poly_num.specs.Vectors.{Vector}
use Rattle.poly_num.specs.Fractions.{Fraction}
use Rattle.poly_model.specs.declared.kind.Kind.{Kind}
use Rattle.poly_model.specs.Systems.{FileRow}
use Rattle.poly_model.specs.Tables.{file_rows_in}
use Rattle.poly_reader.specs.declared.bad.BadFile.{BadFile}
use Rattle.poly_reader.specs.declared.bad.BadKind.TheVariants.{NoEnd}
use Rattle.poly_reader.specs.declared.bad.ParseStop.{ParseStop}
use Rattle.poly_reader.specs.declared.bad.ParseStop.TheVariants as stops
use Rattle.poly_reader.specs.Lines.{Word}
use Rattle.poly_reader.specs.Matrix.{number_of, number_on}
use Rattle.poly_reader.specs.Scaling.{scaled_entries}
use Rattle.poly_reader.specs.Rows.{numbers_in, checked_row, row_fault, rows_from, line_of_first}
use Rattle.poly_reader.specs.FirstFault.{◌>>=◌, Check, bad, Stops}
use Rattle.poly_reader.proofs.ScalingLemmas.{length-scaled_entries}

-- ---- the numbers of a row

-- these numbers, and the others behind them
abbrev with_numbers : List Fraction → Result (List Fraction) BadFile → Result (List Fraction) BadFile
with_numbers front read = read >>= λ others. Ok (front ++ others)

-- with these numbers so far, the words that are left give what all of them give
pub record IsInRow (last left : ℕ) (words : List Word) (front : List Fraction) (width : ℕ)
    (all : List Word) : Type 0 where
  pub same : with_numbers front (numbers_in last left words) ≡ numbers_in last width all
  pub rest : drop left words ≡ drop width all
  pub count : length front + left ≡ width

with_none : (read : Result (List Fraction) BadFile) → with_numbers [] read ≡ read
with_none (Ok xs) = refl
with_none (Err f) = refl

pub row_starts : (last width : ℕ) (words : List Word) (front : List Fraction) → front ≡ []
    → IsInRow last width words front width words
row_starts last width words front e =
    record { same = rw e (with_none (numbers_in last width words)); rest = refl; count = rw e (omega arith) }

pub row_ends : (last left width : ℕ) (words all : List Word) (front : List Fraction) → left ≤ 0
    → IsInRow last left words front width all → numbers_in last width all ≡ Ok front
unfolding numbers_in
row_ends last zero width words all front le at = sym at.same ∙ ap (λ (l : List Fraction). Ok l) (append-nil front)
row_ends last (suc left) width words all front le at = absurd (omega arith)

pub rest_at_end : (last left width : ℕ) (words all : List Word) (front : List Fraction) → left ≤ 0
    → IsInRow last left words front width all → words ≡ drop width all
rest_at_end last zero width words all front le at = at.rest
rest_at_end last (suc left) width words all front le at = absurd (omega arith)

pub no_word : (last left width : ℕ) (words all : List Word) (front : List Fraction) → 0 < left → words ≡ []
    → IsInRow last left words front width all → numbers_in last width all ≡ bad NoEnd last
unfolding numbers_in
no_word last zero width words all front lt e at = absurd (omega arith)
no_word last (suc left) width words all front lt e at = sym (rw e at at.same)

pub no_number : (last left width : ℕ) (f : BadFile) (w : Word) (words rest all : List Word) (front : List Fraction)
    → 0 < left → words ≡ w ∷ rest → number_on w.line (number_of w.text) ≡ Err f
    → IsInRow last left words front width all
    → numbers_in last width all ≡ Err f
unfolding numbers_in
no_number last zero width f w words rest all front lt e h at = absurd (omega arith)
no_number last (suc left) width f w words rest all front lt e h at = sym (rw (e, h) at at.same)

regroup : (front : List Fraction) (x : Fraction) (read : Result (List Fraction) BadFile)
    → with_numbers front (read >>= λ others. Ok (x ∷ others)) ≡ with_numbers (front ++ x ∷ []) read
regroup front x (Ok others) = ap (λ (l : List Fraction). Ok l) (simp append_assoc)
regroup front x (Err f) = refl

pub one_number : (last left width : ℕ) (x : Fraction) (w : Word) (words rest all : List Word) (front : List Fraction)
    → 0 < left → words ≡ w ∷ rest → number_on w.line (number_of w.text) ≡ Ok x → IsInRow last left words front width all
    → IsInRow last (left - 1) rest (front ++ x ∷ []) width all
unfolding numbers_in
one_number last zero width x w words rest all front lt e h at = absurd (omega arith)
one_number last (suc left) width x w words rest all front lt e h at =
    let k : suc left - 1 ≡ left = omega arith in
    rw k (record {
      same = sym (regroup front x (numbers_in last left rest)) ∙ rw (e, h) at at.same;
      rest = rw e at at.rest;
      count = omega (arith, length-append front (x ∷ []), at.count);
    })

-- ---- the entries of a row

after_fault : (r : Check) (row row' : FileRow) → (r >>= λ _. Ok row) ≡ Ok row' → row ≡ row'
after_fault (Ok u) row row' e = cc
after_fault (Err f) row row' e = absurd cc

pub row_of_full : (kind : Kind) (linear : Bool) (line : ℕ) (xs : List Fraction) (es : Vector)
    → checked_row kind linear line xs ≡ Ok (record { entries = es; linear = linear }) → length es ≡ length xs
unfolding checked_row
row_of_full kind linear line xs es e =
    let same = after_fault (row_fault kind linear line xs) (record { entries = scaled_entries xs; linear = linear })
    (record { entries = es; linear = linear }) e in
    ap (λ (r : FileRow). length r.entries) (sym same) ∙ length-scaled_entries xs

-- ---- the rows

-- these rows, and the others behind them
abbrev with_rows : List FileRow → Result (List FileRow) BadFile → Result (List FileRow) BadFile
with_rows front read = read >>= λ others. Ok (front ++ others)

-- with the cells of the first i rows, the words that are left give what all of them give
pub record IsAt (last : ℕ) (kind : Kind) (n i : ℕ) (marks : List Bool) (words : List Word) (cells : Vector)
    (all : List Word) : Type 0 where
  pub same : with_rows (file_rows_in n cells (take i marks)) (rows_from last kind n (drop i marks) words)
      ≡ rows_from last kind n marks all
  pub full : length cells ≡ i * n

with_no_row : (read : Result (List FileRow) BadFile) → with_rows [] read ≡ read
with_no_row (Ok rows) = refl
with_no_row (Err f) = refl

pub starts : (last : ℕ) (kind : Kind) (n : ℕ) (marks : List Bool) (words : List Word) (cells : Vector) → cells ≡ []
    → IsAt last kind n 0 marks words cells words
starts last kind n marks words cells e =
    record { same = with_no_row (rows_from last kind n marks words); full = rw e (omega arith) }

pub ends : (last : ℕ) (kind : Kind) (n i : ℕ) (marks : List Bool) (words all : List Word) (cells : Vector)
    → length marks ≤ i → IsAt last kind n i marks words cells all
    → rows_from last kind n marks all ≡ Ok (file_rows_in n cells marks)
unfolding rows_from
ends last kind n i marks words all cells le at =
    let whole : with_rows (file_rows_in n cells marks) (rows_from last kind n [] words)
    ≡ rows_from last kind n marks all =
    rw (take_all i marks le, drop_all i marks le) at at.same in
    sym whole ∙ ap (λ (l : List FileRow). Ok l) (append-nil (file_rows_in n cells marks))

pub numbers_fail : (stop : ParseStop) (last : ℕ) (kind : Kind) (n i : ℕ) (marks : List Bool)
    (words all : List Word) (cells : Vector)
    → i < length marks → Stops stop (numbers_in last n words) → IsAt last kind n i marks words cells all
    → Stops stop (rows_from last kind n marks all)
unfolding rows_from
numbers_fail stops.Memory last kind n i marks words all cells lt h at = tt
numbers_fail (stops.Bad f) last kind n i marks words all cells lt h at =
    sym at.same ∙ rw (drop-cons marks i false lt, h) refl

pub row_fails : (stop : ParseStop) (last : ℕ) (kind : Kind) (n i : ℕ) (mark : Bool) (xs : List Fraction)
    (marks : List Bool) (words all : List Word) (cells : Vector)
    → i < length marks → mark ≡ get_or marks i false → numbers_in last n words ≡ Ok xs
    → Stops stop (checked_row kind mark (line_of_first last words) xs) → IsAt last kind n i marks words cells all
    → Stops stop (rows_from last kind n marks all)
unfolding rows_from
row_fails stops.Memory last kind n i mark xs marks words all cells lt m x h at = tt
row_fails (stops.Bad f) last kind n i mark xs marks words all cells lt m x h at =
    sym at.same ∙ rw (drop-cons marks i false lt, ← m, x, h) refl

rows_behind : (n : ℕ) (a b : Vector) (ms ns : List Bool) → length a ≡ length ms * n
    → file_rows_in n (a ++ b) (ms ++ ns) ≡ file_rows_in n a ms ++ file_rows_in n b ns
rows_behind n [] b [] ns e = refl
rows_behind n (z ∷ a) b [] ns e = absurd (omega arith)
rows_behind n a b (m ∷ ms) ns e =
    let k : length a ≡ n + length ms * n = omega (arith, suc-mul (length ms) n) in
    let h = rows_behind n (drop n a) b ms ns (omega (arith, length-drop n a)) in
    rw (take-append-le n a b (omega arith), drop-append-le n a b (omega arith), h) refl

regroup_rows : (front : List FileRow) (x : FileRow) (read : Result (List FileRow) BadFile)
    → with_rows front (read >>= λ others. Ok (x ∷ others)) ≡ with_rows (front ++ x ∷ []) read
regroup_rows front x (Ok others) = ap (λ (l : List FileRow). Ok l) (simp append_assoc)
regroup_rows front x (Err f) = refl

one_row_more : (n i : ℕ) (mark : Bool) (marks : List Bool) (cells es : Vector) → i < length marks →
    mark ≡ get_or marks i false
    → length cells ≡ i * n → length es ≡ n
    → file_rows_in n (cells ++ es) (take (i + 1) marks)
    ≡ file_rows_in n cells (take i marks) ++ record { entries = es; linear = mark } ∷ []
one_row_more n i mark marks cells es lt m full size =
    let t : take (i + 1) marks ≡ take i marks ++ mark ∷ [] =
    take_more marks i false lt ∙ ap (λ (x : Bool). take i marks ++ x ∷ []) (sym m) in
    let k : length (take i marks) ≡ i = length-take-le i marks (omega arith) in
    rw (
      t,
      rows_behind n cells es (take i marks) (mark ∷ []) (full ∙ ap (λ (j : ℕ). j * n) (sym k)),
      take_all n es (omega arith),
    ) refl

pub goes_on : (last : ℕ) (kind : Kind) (n i : ℕ) (mark : Bool) (xs : List Fraction) (marks : List Bool)
    (words rest all : List Word) (cells es more : Vector)
    → i < length marks → mark ≡ get_or marks i false → numbers_in last n words ≡ Ok xs
    → checked_row kind mark (line_of_first last words) xs ≡ Ok (record { entries = es; linear = mark }) → length es ≡ n
    → rest ≡ drop n words → more ≡ cells ++ es → IsAt last kind n i marks words cells all
    → IsAt last kind n (i + 1) marks rest more all
unfolding rows_from
goes_on last kind n i mark xs marks words rest all cells es more lt m x h size r e at =
    let row : FileRow = record { entries = es; linear = mark } in
    let step : with_rows (file_rows_in n cells (take i marks)) (rows_from last kind n (drop i marks) words)
    ≡ with_rows (file_rows_in n (cells ++ es) (take (i + 1) marks))
    (rows_from last kind n (drop (i + 1) marks) (drop n words)) =
    rw (one_row_more n i mark marks cells es lt m at.full size, add-one, drop-cons marks i false lt, ← m, x, h)
    (regroup_rows (file_rows_in n cells (take i marks)) row
    (rows_from last kind n (drop (suc i) marks) (drop n words))) in
    record {
      same = rw (r, e) (sym step ∙ at.same);
      full = omega (arith, ap length e, length-append cells es, at.full, size, suc-mul i n);
    }
