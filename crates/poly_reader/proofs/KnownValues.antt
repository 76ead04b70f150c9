-- Values of the definition that are known from the rules of the format: its limits, the texts that it refuses, one for
-- each kind of fault, and a few that it accepts. `/` stands for LF and `;` for `/`.
use Rattle.std.proofs.Common.{◌≡◌, ℕ, ◌==◌, if◌then◌else◌, Bool, List, [], ◌∷◌, map, Ok, refl, codes, true, false, pos, negsuc}
use Rattle.poly_num.specs.Vectors.{Vector}
use Rattle.poly_num.specs.Divisors.{gcd_in, gcd_of}
use Rattle.poly_num.specs.Fractions.{lowest}
use Rattle.poly_model.specs.declared.kind.Kind.{Kind}
use Rattle.poly_model.specs.declared.kind.Kind.TheVariants.{H, V}
use Rattle.poly_model.specs.Systems.{FileRow}
use Rattle.poly_model.specs.Limits.{most_columns, most_file_rows}
use Rattle.poly_reader.specs.declared.bad.BadKind.{BadKind}
use Rattle.poly_reader.specs.declared.bad.BadKind.TheVariants.{BadFirst, BadHeader, BadLinearity, BadNumber, BadWidth, LinearPoint, LongData, MisplacedLinearity, MisplacedNonnegative, NoBegin, NoEnd, NoRows, ShortData, TooManyRows, UnsupportedType, WideNumber, WideRow, ZeroDenominator}
use Rattle.poly_reader.specs.Limits.{most_file_bytes}
use Rattle.poly_reader.specs.Lines.{pieces, lines_from, firsts}
use Rattle.plain_text.specs.Digits.{value_of, count_of}
use Rattle.poly_reader.specs.FirstFault.{bad, each}
use Rattle.poly_reader.specs.Head.{head_of, body_of, are_counts, line_fault, names_on, opening_of, nonnegative_line, nonnegative_line_of}
use Rattle.poly_reader.specs.Header.{rows_announced, width_of, type_fault, size_of}
use Rattle.poly_reader.specs.Matrix.{number_of, matrix_of, late_fault}
use Rattle.poly_reader.specs.Marks.{name_fault, checked_marks, with_names}
use Rattle.poly_reader.specs.Scaling.{lcm_of, common_den, scaled_entries, is_wide_row}
use Rattle.poly_reader.specs.Rows.{first_fault, row_fault, checked_row, numbers_in, rows_from}
use Rattle.poly_reader.specs.Reading.{reading}

abbrev file : List ℕ → List ℕ
file text = map (λ (b : ℕ). if b == 47 then 10 else (if b == 59 then 47 else b)) text

bytes_of_a_file : most_file_bytes ≡ 67108864
bytes_of_a_file = refl

rows_of_a_file : most_file_rows ≡ 4096
rows_of_a_file = refl

numbers_of_a_row : most_columns ≡ 512
numbers_of_a_row = refl

-- the text is refused for this, on this line
abbrev IsRefused : BadKind → ℕ → List ℕ → Type 0
IsRefused kind line text = reading (file text) ≡ bad kind line

abbrev row : Bool → Vector → FileRow
row linear entries = record { entries = entries; linear = linear }

-- the text is read as these rows of two numbers
abbrev IsReadAs : Kind → List FileRow → List ℕ → Type 0
IsReadAs kind rows text =
    reading (file text) ≡ Ok (record { kind = kind; n = 2; rows = rows; nonnegative = false; text = file text })

-- the same of an H file, and no coordinate is negative
abbrev IsReadAsNonnegative : List FileRow → List ℕ → Type 0
IsReadAsNonnegative rows text =
    reading (file text) ≡ Ok (record { kind = H; n = 2; rows = rows; nonnegative = true; text = file text })

record Refusals : Type 0 where
  no_begin : IsRefused NoBegin 1 (codes "")
  bad_header : IsRefused BadHeader 2 (codes "begin/x 2 integer/")
  too_many_rows : IsRefused TooManyRows 2 (codes "begin/4097 2 integer/")
  bad_width : IsRefused BadWidth 2 (codes "begin/1 513 integer/")
  wide_enough : IsRefused NoEnd 3 (codes "begin/1 257 integer/")
  unsupported_type : IsRefused UnsupportedType 2 (codes "begin/1 2 real/ 1 1/end/")
  bad_number : IsRefused BadNumber 3 (codes "begin/1 2 integer/ 1 x/end/")
  long_data : IsRefused LongData 3 (codes "begin/1 2 integer/ 1 2 3/end/")
  short_data : IsRefused ShortData 4 (codes "begin/1 2 integer/ 1/end/")
  no_multiple : IsRefused ShortData 4 (codes "begin/***** 2 integer/ 1 2 3/end/")
  no_end : IsRefused NoEnd 4 (codes "begin/1 2 integer/ 1 2/")
  wide_number : IsRefused WideNumber 3 (codes "begin/1 2 integer/ 1 170141183460469231731687303715884105728/end/")
  few_names : IsRefused BadLinearity 1 (codes "linearity 2 1/begin/1 2 integer/ 1 2/end/")
  no_row_named : IsRefused BadLinearity 1 (codes "linearity 1 3/begin/1 2 integer/ 1 2/end/")
  misplaced : IsRefused MisplacedLinearity 5 (codes "begin/1 2 integer/ 1 2/end/linearity 1 1/")
  signs_of_points : IsRefused MisplacedNonnegative 2 (codes "V-representation/nonnegative/begin/1 2 integer/ 1 0/end/")
  late_signs : IsRefused MisplacedNonnegative 5 (codes "begin/1 2 integer/ 1 2/end/nonnegative/")
  signs_without_rows : IsRefused NoRows 5 (codes "V-representation/nonnegative/begin/0 2 integer/end/")
  added_row_named : IsRefused BadLinearity 2 (codes "nonnegative/linearity 1 2/begin/1 2 integer/ 1 2/end/")
  no_rows : IsRefused NoRows 4 (codes "V-representation/begin/0 2 integer/end/")
  bad_first : IsRefused BadFirst 4 (codes "V-representation/begin/1 2 integer/ 2 1/end/")
  linear_point : IsRefused LinearPoint 5 (codes "V-representation/linearity 1 1/begin/1 2 integer/ 1 1/end/")
  zero_denominator : IsRefused ZeroDenominator 3 (codes "begin/1 2 rational/ 1 1;0/end/")
  wide_row : IsRefused WideRow 3
      (codes "begin/1 2 rational/ 1;1267650600228229401496703205376 1;1267650600228229401496703205375/end/")

refusals : Refusals
unfolding reading checked_marks lines_from pieces firsts each head_of body_of are_counts line_fault names_on
    nonnegative_line nonnegative_line_of opening_of rows_announced width_of type_fault size_of matrix_of late_fault number_of name_fault with_names
    value_of count_of numbers_in first_fault row_fault checked_row rows_from gcd_in gcd_of lcm_of lowest common_den
    scaled_entries is_wide_row
refusals = record {
  no_begin = refl;
  bad_header = refl;
  too_many_rows = refl;
  bad_width = refl;
  wide_enough = refl;
  unsupported_type = refl;
  bad_number = refl;
  long_data = refl;
  short_data = refl;
  no_multiple = refl;
  no_end = refl;
  wide_number = refl;
  few_names = refl;
  no_row_named = refl;
  misplaced = refl;
  signs_of_points = refl;
  late_signs = refl;
  signs_without_rows = refl;
  added_row_named = refl;
  no_rows = refl;
  bad_first = refl;
  linear_point = refl;
  zero_denominator = refl;
  wide_row = refl;
}

record Readings : Type 0 where
  signs_and_zeros : IsReadAs H (row false (pos 1 ∷ negsuc 1 ∷ []) ∷ []) (codes "begin/1 2 rational/ +1;2 -01/end/")
  greatest_number : IsReadAs H (row false (pos 1 ∷ pos 170141183460469231731687303715884105727 ∷ []) ∷ [])
      (codes "begin/1 2 integer/ 1 170141183460469231731687303715884105727/end/")
  named_rows : IsReadAs H (row false (pos 1 ∷ pos 2 ∷ []) ∷ row true (pos 0 ∷ pos 1 ∷ []) ∷ [])
      (codes "names/linearity 1 2/linearity 1 2/begin/2 2 integer/ 3 6/ 0 4/end/maximize/")
  star_rows : IsReadAs V (row false (pos 6 ∷ pos 1 ∷ []) ∷ row false (pos 0 ∷ negsuc 0 ∷ []) ∷ [])
      (codes "V-representation/begin/***** 2 integer/ 3;3 1;6 0 -4/end/")
  nonnegative : IsReadAsNonnegative (row false (pos 1 ∷ pos 2 ∷ []) ∷ []) (codes "nonnegative/begin/1 2 integer/ 1 2/end/")
  signs_again : IsReadAsNonnegative (row true (pos 1 ∷ pos 2 ∷ []) ∷ [])
      (codes "V-representation/nonnegative/linearity 1 1/nonnegative on/H-representation/begin/1 2 integer/ 1 2/end/")

readings : Readings
unfolding reading checked_marks lines_from pieces firsts each head_of body_of are_counts line_fault names_on
    nonnegative_line nonnegative_line_of opening_of rows_announced width_of type_fault size_of matrix_of late_fault number_of name_fault with_names
    value_of count_of numbers_in first_fault row_fault checked_row rows_from gcd_in gcd_of lcm_of lowest common_den
    scaled_entries is_wide_row
readings = record {
  signs_and_zeros = refl;
  greatest_number = refl;
  named_rows = refl;
  star_rows = refl;
  nonnegative = refl;
  signs_again = refl;
}
