-- The fractions that are printed of a row are read as that row: a line as a linear row, a shown vector as another.
use Rattle.std.proofs.Common.{◌≡◌, ℕ, zero, suc, pos, negsuc, true, false, [], ◌∷◌, ◌++◌, Ok, length, refl, ◌∙◌}
use Rattle.std.specs.List.{AllByRecursion}
use Rattle.poly_num.specs.Numbers.{IsNum}
use Rattle.poly_num.specs.Vectors.{Vector}
use Rattle.poly_num.proofs.Ring.{lin}
use Rattle.std.proofs.Common.{arith}
use Rattle.poly_model.specs.declared.kind.Kind.{Kind}
use Rattle.poly_model.specs.declared.kind.Kind.TheVariants.{H, V}
use Rattle.poly_model.specs.ListingText.{vector_text, is_point}
use Rattle.poly_model.specs.Systems.{FileRow}
use Rattle.poly_reader.specs.Scaling.{is_wide_row}
use Rattle.poly_reader.specs.Rows.{first_fault, row_fault, checked_row}
use Rattle.text_laws.specs.Listed.{other_kind, linear_row, nonlinear_row, IsSmallest, BeginsAsLine, BeginsAsRow}
use Rattle.text_laws.proofs.PlainWords.{spaced}
use Rattle.text_laws.proofs.NumberTexts.{IsPrintable}
use Rattle.text_laws.proofs.PrintedRows.{row_fractions, wholes, words_of, vector_line, row_printable, length-row_fractions}
use Rattle.text_laws.proofs.ScaledRows.{row_scaled}

-- n fractions, which can be printed, and are read as the row
pub record IsReadRow (kind : Kind) (n : ℕ) (row : FileRow) : Type 0 where
  pub printable : AllByRecursion IsPrintable (row_fractions kind row.entries)
  pub width : length (row_fractions kind row.entries) ≡ n
  pub read : (line : ℕ) → checked_row (other_kind kind) row.linear line (row_fractions kind row.entries) ≡ Ok row

line_passes : (kind : Kind) (line : ℕ) (v : Vector) → BeginsAsLine kind v → is_wide_row (row_fractions kind v) ≡ false
    → row_fault (other_kind kind) true line (row_fractions kind v) ≡ Ok tt
unfolding row_fault first_fault is_point
line_passes V line [] h w = refl
line_passes V line (y ∷ ys) h w = rw w refl
line_passes H line [] h w = refl
line_passes H line (pos zero ∷ ys) h w = rw w refl
line_passes H line (pos (suc n) ∷ ys) h w = absurd cc
line_passes H line (negsuc n ∷ ys) h w = absurd cc

row_passes : (kind : Kind) (line : ℕ) (v : Vector) → BeginsAsRow kind v → is_wide_row (row_fractions kind v) ≡ false
    → row_fault (other_kind kind) false line (row_fractions kind v) ≡ Ok tt
unfolding row_fault first_fault is_point
row_passes V line [] h w = refl
row_passes V line (y ∷ ys) h w = rw w refl
row_passes H line [] h w = refl
row_passes H line (pos zero ∷ ys) h w = rw w refl
row_passes H line (pos (suc n) ∷ ys) h w = rw w refl
row_passes H line (negsuc n ∷ ys) h w = absurd (omega (arith, lin))

pub line_is_read : (kind : Kind) (n : ℕ) (v : Vector) → IsSmallest n v → AllByRecursion IsNum v → BeginsAsLine kind v
    → IsReadRow kind n (linear_row v)
unfolding checked_row
line_is_read kind n v h fits begins =
    let p = row_printable kind v fits in
    let s = row_scaled kind v p fits h.smallest in
    record {
      printable = p;
      width = length-row_fractions kind v ∙ h.width;
      read = λ line. rw (line_passes kind line v begins s.narrow, s.entries) refl;
    }

pub row_is_read : (kind : Kind) (n : ℕ) (v : Vector) → IsSmallest n v → AllByRecursion IsNum v → BeginsAsRow kind v
    → IsReadRow kind n (nonlinear_row v)
unfolding checked_row
row_is_read kind n v h fits begins =
    let p = row_printable kind v fits in
    let s = row_scaled kind v p fits h.smallest in
    record {
      printable = p;
      width = length-row_fractions kind v ∙ h.width;
      read = λ line. rw (row_passes kind line v begins s.narrow, s.entries) refl;
    }

-- of a line whole entries are printed
line_fractions : (kind : Kind) (v : Vector) → BeginsAsLine kind v → row_fractions kind v ≡ wholes v
unfolding is_point
line_fractions V v h = refl
line_fractions H [] h = refl
line_fractions H (pos zero ∷ ys) h = refl
line_fractions H (pos (suc n) ∷ ys) h = absurd cc
line_fractions H (negsuc n ∷ ys) h = refl

pub line_line : (kind : Kind) (v : Vector) → BeginsAsLine kind v
    → vector_text v ≡ spaced (words_of (row_fractions kind v)) ++ 10 ∷ []
line_line kind v h = rw (line_fractions kind v h) (vector_line v)
