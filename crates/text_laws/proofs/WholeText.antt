-- The text of a listing is read back as its polyhedron, step by step.
use Rattle.std.proofs.Common.{◌≡◌, ◌≤◌, ◌+◌, ◌*◌, ◌/◌, ℕ, Bool, false, List, [], ◌∷◌, ◌++◌, None, Ok, length, map, refl, sym, ap, subst, ◌∙◌, arith}
use Rattle.std.specs.List.{AllByRecursion}
use Rattle.std.proofs.lemmas.Bool.{ne_eqb, le-ltb}
use Rattle.std.proofs.lemmas.List.{length-map}
use Rattle.std.proofs.Math.Nat.{mul-div_cancel, mul-mod_left, mul-le-mul_right}
use Rattle.poly_num.specs.Numbers.{IsNum}
use Rattle.poly_num.specs.Vectors.{Vector}
use Rattle.poly_model.specs.declared.kind.Kind.{Kind}
use Rattle.poly_model.specs.declared.kind.Kind.TheVariants.{H, V}
use Rattle.poly_model.specs.Limits.{most_file_rows}
use Rattle.poly_model.specs.Listing.{listing_text}
use Rattle.poly_model.specs.Systems.{FileRow}
use Rattle.poly_reader.specs.Limits.{most_file_bytes}
use Rattle.poly_reader.specs.Lines.{Word, lines_of, last_line, firsts}
use Rattle.poly_reader.specs.FirstFault.{each}
use Rattle.poly_reader.specs.Head.{head_of, names_of, nonnegative_line_of, opening_of}
use Rattle.poly_reader.specs.Header.{size_of}
use Rattle.poly_reader.specs.Matrix.{matrix_of}
use Rattle.poly_reader.specs.Marks.{checked_marks}
use Rattle.poly_reader.specs.Rows.{rows_from}
use Rattle.poly_reader.specs.Reading.{length_fault, empty_fault, reading, IsFileOf}
use Rattle.text_laws.specs.Listed.{other_kind, linear_row, nonlinear_row, listed_rows, listed_polyhedron, HasEnough, IsWithinLimits, IsSmallest, BeginsAsLine, BeginsAsRow, AreRows}
use Rattle.text_laws.proofs.PlainWords.{numbered_lines, lines_are}
use Rattle.text_laws.proofs.ReadRows.{IsReadRow, line_is_read, row_is_read}
use Rattle.text_laws.proofs.MatrixRead.{matrix_words, rows_read, matrix_read}
use Rattle.text_laws.proofs.NamedRows.{marks_read}
use Rattle.text_laws.proofs.ListingLines.{listing_lines, listing_words, listing_ended, listing_lines_are}
use Rattle.text_laws.proofs.HeadRead.{size_line_of, body_words, opening_read, names_are_read, nothing_nonnegative, size_read}

-- ---- the steps of a reading

-- what each step gives, where none finds a fault and nothing stands behind `end`
record ReadsAs (text : List ℕ) (kind : Kind) (n m : ℕ) (rows : List FileRow) : Type 0 where
  words : List Word
  matrix : List Word
  line : ℕ
  marks : List Bool
  short : length_fault (length text) ≡ Ok tt
  opening : opening_of (last_line text) (lines_of text) ≡ Ok (record { kind = kind; words = words })
  size : size_of (last_line text) words ≡ Ok (record { rows = None; width = n; words = matrix })
  counted : matrix_of (last_line text) None n 0 matrix ≡ Ok (record { count = m * n; end_line = line; words = [] })
  quotient : m * n / n ≡ m
  checked : checked_marks m (names_of (head_of (lines_of text))) ≡ Ok marks
  some : empty_fault kind m line ≡ Ok tt
  nothing_nonnegative : nonnegative_line_of (head_of (lines_of text)) ≡ None
  read : rows_from (last_line text) kind n marks matrix ≡ Ok rows

reading_is : (text : List ℕ) (kind : Kind) (n m : ℕ) (rows : List FileRow) → ReadsAs text kind n m rows
    → reading text ≡ Ok (record { kind = kind; n = n; rows = rows; nonnegative = false; text = text })
unfolding reading firsts each
reading_is text kind n m rows h =
    rw (h.short, h.opening, h.size, h.counted, h.quotient, h.checked, h.some, h.nothing_nonnegative, h.read) refl

-- ---- the rows of a listing

lines_are_read : (kind : Kind) (n : ℕ) (lines : List Vector) (rows : List FileRow) → AllByRecursion (IsSmallest n) lines
    → AllByRecursion (AllByRecursion IsNum) lines → AllByRecursion (BeginsAsLine kind) lines
    → AllByRecursion (IsReadRow kind n) rows
    → AllByRecursion (IsReadRow kind n) (map linear_row lines ++ rows)
lines_are_read kind n [] rows h k l more = more
lines_are_read kind n (v ∷ lines) rows h k l more =
    (line_is_read kind n v h.0 k.0 l.0, lines_are_read kind n lines rows h.1 k.1 l.1 more)

others_are_read : (kind : Kind) (n : ℕ) (shown : List Vector) → AllByRecursion (IsSmallest n) shown
    → AllByRecursion (AllByRecursion IsNum) shown → AllByRecursion (BeginsAsRow kind) shown
    → AllByRecursion (IsReadRow kind n) (map nonlinear_row shown)
others_are_read kind n [] h k l = tt
others_are_read kind n (v ∷ shown) h k l = (row_is_read kind n v h.0 k.0 l.0, others_are_read kind n shown h.1 k.1 l.1)

rows_are_read : (kind : Kind) (n : ℕ) (lines shown : List Vector) → IsWithinLimits kind n lines shown
    → AreRows kind n lines shown → AllByRecursion (IsReadRow kind n) (listed_rows lines shown)
rows_are_read kind n lines shown w r =
    lines_are_read kind n lines (map nonlinear_row shown) r.line_sizes w.line_numbers r.line_begins
    (others_are_read kind n shown r.shown_sizes w.shown_numbers r.shown_begins)

how_many : (lines shown : List Vector) → length (listed_rows lines shown) ≡ length lines + length shown
how_many [] shown = length-map shown nonlinear_row ∙ omega arith
how_many (v ∷ lines) shown = let h = how_many lines shown in omega arith

enough : (kind : Kind) (m line : ℕ) → HasEnough kind m → empty_fault (other_kind kind) m line ≡ Ok tt
enough H m line h = rw (ne_eqb m 0 (λ e. omega arith)) refl
enough V m line h = refl

pub rows_are_read_back : (kind : Kind) (n : ℕ) (lines shown : List Vector) → IsWithinLimits kind n lines shown
    → AreRows kind n lines shown → IsFileOf (listing_text kind n lines shown) (listed_polyhedron kind n lines shown)
rows_are_read_back kind n lines shown w r =
    reading_is text (other_kind kind) n m rows (record {
      words = body_words (size_line_of k) kind n rows;
      matrix = matrix_words (size_line_of k + 1) kind rows;
      line = size_line_of k + 1 + m;
      marks = map (λ (row : FileRow). row.linear) rows;
      short = rw (le-ltb most_file_bytes (length text) w.bytes) refl;
      opening = rw these (opening_read (last_line text) kind n k rows (omega (arith, w.rows)));
      size = size_read (last_line text) (size_line_of k) n
          (matrix_words (size_line_of k + 1) kind rows) w.some_columns w.columns;
      counted = rw from_zero at counted_from;
      quotient = mul-div_cancel m w.some_columns;
      checked =
          rw (these, names_are_read kind n k rows (omega (arith, w.rows)))
          (marks_read m 2 lines shown refl (omega (arith, how_many lines shown)));
      some = enough kind m (size_line_of k + 1 + m) (subst (HasEnough kind) (sym (how_many lines shown)) r.enough);
      nothing_nonnegative = rw these (nothing_nonnegative kind n k rows);
      read = rows_read (last_line text) (size_line_of k + 1) n kind rows read;
    })
  where
    text : List ℕ
    text = listing_text kind n lines shown

    rows : List FileRow
    rows = listed_rows lines shown

    k : ℕ
    k = length lines

    m : ℕ
    m = length rows

    read : AllByRecursion (IsReadRow kind n) rows
    read = rows_are_read kind n lines shown w r

    these : lines_of text ≡ numbered_lines 1 (listing_words kind n k rows)
    these =
        ap (λ (t : List ℕ). lines_of t) (listing_ended kind n lines shown r.line_begins)
        ∙ lines_are 1 (listing_words kind n k rows) (listing_lines kind n k rows)
        (listing_lines_are kind n k rows (omega (arith, w.columns)) (omega (arith, w.rows)) read)

    from_zero : 0 + m * n ≡ m * n
    from_zero = omega arith

    few : m * n ≤ most_file_rows * n
    few = mul-le-mul_right n (omega (arith, how_many lines shown, w.rows))

    counted_from : matrix_of (last_line text) None n 0 (matrix_words (size_line_of k + 1) kind rows)
        ≡ Ok (record { count = 0 + m * n; end_line = size_line_of k + 1 + m; words = [] })
    counted_from =
        matrix_read (last_line text) n 0 (size_line_of k + 1) kind rows read (omega (arith, few))
        (rw from_zero (mul-mod_left m n))
