-- Listings that are known: two are read back as their rows, and one for each premise without which a listing is not.
-- `/` stands for LF and `;` for `/`.
use Rattle.std.proofs.Common.{◌≡◌, ℕ, ◌==◌, if◌then◌else◌, List, [], ◌∷◌, map, Ok, refl, inr, codes, true, false, pos, negsuc, arith}
use Rattle.std.specs.Fmt.{digits}
use Rattle.poly_num.specs.Divisors.{gcd_in, gcd_of}
use Rattle.poly_num.specs.Fractions.{lowest}
use Rattle.poly_num.specs.Vectors.{Vector}
use Rattle.poly_num.proofs.PrimitiveLemmas.{primitive_from_gcd}
use Rattle.poly_num.proofs.Ring.{lin}
use Rattle.poly_model.specs.declared.kind.Kind.TheVariants.{H, V}
use Rattle.poly_model.specs.Listing.{listing_text}
use Rattle.poly_model.specs.ListingText.{title_text, number_text, numbers_text, linearity_text, size_text, head_text, entry_text, entries_text, vector_text, denominator_text, fraction_text, coordinates_text, point_text, is_point, row_text, end_text}
use Rattle.poly_model.specs.Systems.{FileRow}
use Rattle.poly_reader.specs.declared.bad.BadKind.TheVariants.{BadFirst, LinearPoint, NoRows}
use Rattle.poly_reader.specs.Lines.{pieces, lines_from, firsts}
use Rattle.plain_text.specs.Digits.{value_of, count_of}
use Rattle.poly_reader.specs.FirstFault.{bad, each}
use Rattle.poly_reader.specs.Head.{head_of, body_of, are_counts, line_fault, names_on, nonnegative_line, nonnegative_line_of, opening_of}
use Rattle.poly_reader.specs.Header.{rows_announced, width_of, type_fault, size_of}
use Rattle.poly_reader.specs.Matrix.{number_of, matrix_of, late_fault}
use Rattle.poly_reader.specs.Marks.{name_fault, checked_marks, with_names}
use Rattle.poly_reader.specs.Scaling.{lcm_of, common_den, scaled_entries, is_wide_row}
use Rattle.poly_reader.specs.Rows.{first_fault, row_fault, checked_row, numbers_in, rows_from}
use Rattle.poly_reader.specs.Reading.{reading}
use Rattle.text_laws.specs.Listed.{IsWithinLimits, AreRows}

abbrev file : List ℕ → List ℕ
file text = map (λ (b : ℕ). if b == 47 then 10 else (if b == 59 then 47 else b)) text

-- ---- the strip of all (x, y) with 0 <= 2 y <= 3: a line, and two points

strip_lines : List Vector
strip_lines = (pos 0 ∷ pos 1 ∷ pos 0 ∷ []) ∷ []

strip_points : List Vector
strip_points = (pos 1 ∷ pos 0 ∷ pos 0 ∷ []) ∷ (pos 2 ∷ pos 0 ∷ pos 3 ∷ []) ∷ []

strip_text : List ℕ
strip_text = file (codes "V-representation/linearity 1 1/begin/***** 3 rational/ 0 1 0/ 1 0 0/ 1 0 3;2/end/")

strip_printed : listing_text H 3 strip_lines strip_points ≡ strip_text
unfolding strip_lines strip_points strip_text title_text number_text numbers_text linearity_text size_text head_text
    entry_text entries_text vector_text denominator_text fraction_text coordinates_text point_text is_point row_text
    end_text lowest gcd_of gcd_in digits
strip_printed = refl

strip_rows : List FileRow
strip_rows =
    record { entries = pos 0 ∷ pos 1 ∷ pos 0 ∷ []; linear = true }
    ∷ record { entries = pos 1 ∷ pos 0 ∷ pos 0 ∷ []; linear = false }
    ∷ record { entries = pos 2 ∷ pos 0 ∷ pos 3 ∷ []; linear = false } ∷ []

strip_read : reading strip_text ≡ Ok (record { kind = V; n = 3; rows = strip_rows; nonnegative = false; text = strip_text })
unfolding strip_text strip_rows reading checked_marks lines_from pieces firsts each head_of body_of are_counts
    line_fault names_on nonnegative_line nonnegative_line_of opening_of rows_announced width_of type_fault size_of matrix_of late_fault number_of
    name_fault with_names value_of count_of numbers_in first_fault row_fault checked_row rows_from gcd_in gcd_of
    lcm_of lowest common_den scaled_entries is_wide_row
strip_read = refl

-- it meets the premises
strip_within : IsWithinLimits H 3 strip_lines strip_points
unfolding strip_lines strip_points strip_text title_text number_text numbers_text linearity_text size_text head_text
    entry_text entries_text vector_text denominator_text fraction_text coordinates_text point_text is_point row_text
    end_text lowest gcd_of gcd_in digits
strip_within = record {
  some_columns = omega arith;
  columns = omega arith;
  rows = omega arith;
  bytes = omega arith;
  line_numbers = ((omega arith, (omega arith, (omega arith, tt))), tt);
  shown_numbers =
      ((omega arith, (omega arith, (omega arith, tt))), ((omega arith, (omega arith, (omega arith, tt))), tt));
}

strip_are_rows : AreRows H 3 strip_lines strip_points
unfolding strip_lines strip_points gcd_of gcd_in
strip_are_rows = record {
  enough = omega arith;
  line_sizes = (record { width = refl; smallest = inr (primitive_from_gcd (pos 0 ∷ pos 1 ∷ pos 0 ∷ []) refl) }, tt);
  line_begins = (refl, tt);
  shown_sizes = (
    record { width = refl; smallest = inr (primitive_from_gcd (pos 1 ∷ pos 0 ∷ pos 0 ∷ []) refl) },
    (record { width = refl; smallest = inr (primitive_from_gcd (pos 2 ∷ pos 0 ∷ pos 3 ∷ []) refl) }, tt),
  );
  shown_begins = (omega (arith, lin), (omega (arith, lin), tt));
}

-- ---- the hull of (0, 0) and (20/3, 10/3): an equation, and two inequalities

segment_lines : List Vector
segment_lines = (pos 0 ∷ negsuc 0 ∷ pos 2 ∷ []) ∷ []

segment_facets : List Vector
segment_facets = (pos 0 ∷ pos 1 ∷ pos 0 ∷ []) ∷ (pos 20 ∷ negsuc 2 ∷ pos 0 ∷ []) ∷ []

segment_text : List ℕ
segment_text = file (codes "H-representation/linearity 1 1/begin/***** 3 rational/ 0 -1 2/ 0 1 0/ 20 -3 0/end/")

segment_printed : listing_text V 3 segment_lines segment_facets ≡ segment_text
unfolding segment_lines segment_facets segment_text title_text number_text numbers_text linearity_text size_text
    head_text entry_text entries_text vector_text row_text end_text digits
segment_printed = refl

segment_rows : List FileRow
segment_rows =
    record { entries = pos 0 ∷ negsuc 0 ∷ pos 2 ∷ []; linear = true }
    ∷ record { entries = pos 0 ∷ pos 1 ∷ pos 0 ∷ []; linear = false }
    ∷ record { entries = pos 20 ∷ negsuc 2 ∷ pos 0 ∷ []; linear = false } ∷ []

segment_read : reading segment_text ≡ Ok (record { kind = H; n = 3; rows = segment_rows; nonnegative = false; text = segment_text })
unfolding segment_text segment_rows reading checked_marks lines_from pieces firsts each head_of body_of are_counts
    line_fault names_on nonnegative_line nonnegative_line_of opening_of rows_announced width_of type_fault size_of matrix_of late_fault number_of
    name_fault with_names value_of count_of numbers_in first_fault row_fault checked_row rows_from gcd_in gcd_of
    lcm_of lowest common_den scaled_entries is_wide_row
segment_read = refl

-- ---- each premise is needed

-- a listing of an H file without a row
nothing_listed : reading (listing_text H 2 [] []) ≡ bad NoRows 4
unfolding title_text number_text numbers_text linearity_text size_text head_text end_text digits reading checked_marks
    lines_from pieces firsts each head_of body_of are_counts line_fault names_on nonnegative_line nonnegative_line_of opening_of rows_announced width_of
    type_fault size_of matrix_of late_fault number_of name_fault with_names value_of count_of numbers_in first_fault
    row_fault checked_row rows_from gcd_in gcd_of lcm_of lowest common_den scaled_entries is_wide_row
nothing_listed = refl

-- a line of an H file that begins with 1
line_with_one : reading (listing_text H 2 ((pos 1 ∷ pos 3 ∷ []) ∷ []) []) ≡ bad LinearPoint 5
unfolding title_text number_text numbers_text linearity_text size_text head_text entry_text entries_text vector_text
    end_text digits reading checked_marks lines_from pieces firsts each head_of body_of are_counts line_fault names_on nonnegative_line nonnegative_line_of
    opening_of rows_announced width_of type_fault size_of matrix_of late_fault number_of name_fault with_names
    value_of count_of numbers_in first_fault row_fault checked_row rows_from gcd_in gcd_of lcm_of lowest common_den
    scaled_entries is_wide_row
line_with_one = refl

-- a shown vector of an H file that begins with a negative number
negative_first : reading (listing_text H 2 [] ((negsuc 0 ∷ pos 3 ∷ []) ∷ [])) ≡ bad BadFirst 4
unfolding title_text number_text numbers_text linearity_text size_text head_text entry_text entries_text vector_text
    is_point row_text end_text digits reading checked_marks lines_from pieces firsts each head_of body_of are_counts
    line_fault names_on nonnegative_line nonnegative_line_of opening_of rows_announced width_of type_fault size_of matrix_of late_fault number_of
    name_fault with_names value_of count_of numbers_in first_fault row_fault checked_row rows_from gcd_in gcd_of
    lcm_of lowest common_den scaled_entries is_wide_row
negative_first = refl

-- a vector with a common divisor loses it
doubled : List Vector
doubled = (pos 2 ∷ pos 4 ∷ []) ∷ []

halved : List FileRow
halved = record { entries = pos 1 ∷ pos 2 ∷ []; linear = false } ∷ []

divided : reading (listing_text V 2 [] doubled)
    ≡ Ok (record { kind = H; n = 2; rows = halved; nonnegative = false; text = listing_text V 2 [] doubled })
unfolding doubled halved title_text number_text numbers_text linearity_text size_text head_text entry_text
    entries_text vector_text row_text end_text digits reading checked_marks lines_from pieces firsts each head_of
    body_of are_counts line_fault names_on nonnegative_line nonnegative_line_of opening_of rows_announced width_of type_fault size_of matrix_of late_fault
    number_of name_fault with_names value_of count_of numbers_in first_fault row_fault checked_row rows_from gcd_in
    gcd_of lcm_of lowest common_den scaled_entries is_wide_row
divided = refl
