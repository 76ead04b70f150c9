-- A printed row is a line of fractions: those of its entries, or of a point 1 and the other entries over the first one.
use Rattle.std.proofs.Common.{◌≡◌, ◌/◌, ℕ, zero, suc, ℤ, pos, negsuc, List, [], ◌∷◌, ◌++◌, map, length, refl, ap, ◌∙◌, arith, append-nil}
use Rattle.std.specs.Prelude.{◌<ℤ◌, if◌then◌else◌, unsigned_abs, int_div}
use Rattle.std.specs.Fmt.{digits, signed_decimal}
use Rattle.std.specs.List.{AllByRecursion}
use Rattle.std.proofs.Math.Nat.{div-le_self}
use Rattle.std.proofs.lemmas.List.{length-map}
use Rattle.poly_num.specs.Divisors.{gcd_of}
use Rattle.poly_num.specs.Fractions.{Fraction, lowest, turned_by}
use Rattle.poly_num.specs.Numbers.{IsNum}
use Rattle.poly_num.specs.Vectors.{Vector}
use Rattle.poly_num.proofs.DivisorLemmas.{IsGcd-one}
use Rattle.poly_num.proofs.FractionLemmas.{lowest_reduced, unsigned_abs-quotient, unsigned_abs-turned_by}
use Rattle.poly_num.proofs.Order.{positive_nonzero}
use Rattle.poly_num.proofs.Ring.{lin}
use Rattle.poly_model.specs.declared.kind.Kind.{Kind}
use Rattle.poly_model.specs.declared.kind.Kind.TheVariants.{H, V}
use Rattle.poly_model.specs.ListingText.{entry_text, entries_text, vector_text, denominator_text, fraction_text, coordinates_text, point_text, is_point, row_text}
use Rattle.text_laws.proofs.PlainWords.{IsPlainWord, spaced}
use Rattle.text_laws.proofs.NumberTexts.{number_word, IsPrintable, number_word_plain}

-- ---- the fractions of a row

-- the number as a fraction
abbrev pub whole : ℤ → Fraction
whole y = record { num = y; den = pos 1 }

abbrev pub wholes : Vector → List Fraction
wholes v = map whole v

-- each entry over the first one
abbrev pub coordinate_fractions : ℤ → Vector → List Fraction
coordinate_fractions first ys = map (λ (y : ℤ). lowest y first) ys

-- 1, and the other entries over the first one
abbrev pub point_fractions : Vector → List Fraction
point_fractions [] = []
point_fractions (first ∷ ys) = whole (pos 1) ∷ coordinate_fractions first ys

-- what is printed of a row
abbrev pub row_fractions : Kind → Vector → List Fraction
row_fractions H v = if is_point v then point_fractions v else wholes v
row_fractions V v = wholes v

-- ---- their texts

abbrev pub words_of : List Fraction → List (List ℕ)
words_of row = map number_word row

entries_spaced : (v : Vector) → entries_text v ≡ spaced (words_of (wholes v))
unfolding entries_text entry_text denominator_text
entries_spaced [] = refl
entries_spaced (y ∷ ys) =
    rw (append-nil (signed_decimal y))
    (ap (λ (l : List ℕ). (32 ∷ signed_decimal y) ++ l) (entries_spaced ys))

coordinates_spaced : (first : ℤ) (ys : Vector)
    → coordinates_text first ys ≡ spaced (words_of (coordinate_fractions first ys))
unfolding coordinates_text fraction_text entry_text
coordinates_spaced first [] = refl
coordinates_spaced first (y ∷ ys) =
    ap (λ (l : List ℕ). fraction_text (lowest y first) ++ l) (coordinates_spaced first ys)

pub vector_line : (v : Vector) → vector_text v ≡ spaced (words_of (wholes v)) ++ 10 ∷ []
unfolding vector_text
vector_line v = ap (λ (l : List ℕ). l ++ 10 ∷ []) (entries_spaced v)

point_line : (v : Vector) → point_text v ≡ spaced (words_of (point_fractions v)) ++ 10 ∷ []
unfolding point_text denominator_text digits
point_line [] = refl
point_line (first ∷ ys) = ap (λ (l : List ℕ). 32 ∷ 49 ∷ (l ++ 10 ∷ [])) (coordinates_spaced first ys)

pub row_line : (kind : Kind) (v : Vector) → row_text kind v ≡ spaced (words_of (row_fractions kind v)) ++ 10 ∷ []
unfolding row_text is_point
row_line V v = vector_line v
row_line H [] = vector_line []
row_line H (pos zero ∷ ys) = vector_line (pos zero ∷ ys)
row_line H (pos (suc n) ∷ ys) = point_line (pos (suc n) ∷ ys)
row_line H (negsuc n ∷ ys) = vector_line (negsuc n ∷ ys)

-- ---- each can be printed and read

whole_printable : (y : ℤ) → IsNum y → IsPrintable (whole y)
whole_printable y h = record {
  reduced = record { positive = omega (arith, lin); coprime = IsGcd-one (unsigned_abs y) 1 refl };
  num = h;
  den = omega arith;
}

lowest_fits : (y first : ℤ) → IsNum y → IsNum first → IsNum (lowest y first).num × IsNum (lowest y first).den
unfolding lowest
lowest_fits y first h k =
    let g = gcd_of (unsigned_abs y) (unsigned_abs first) in
    let num : unsigned_abs (int_div (turned_by first y) (pos g)) ≡ unsigned_abs y / g =
    unsigned_abs-quotient (turned_by first y) g ∙ ap (λ (n : ℕ). n / g) (unsigned_abs-turned_by first y) in
    (omega (arith, num, div-le_self (unsigned_abs y) g), omega (arith, div-le_self (unsigned_abs first) g))

lowest_printable : (y first : ℤ) → pos 0 <ℤ first → IsNum y → IsNum first → IsPrintable (lowest y first)
lowest_printable y first lt h k =
    let f = lowest_fits y first h k in
    record { reduced = lowest_reduced y first (positive_nonzero first lt); num = f.0; den = f.1 }

pub wholes_printable : (v : Vector) → AllByRecursion IsNum v → AllByRecursion IsPrintable (wholes v)
wholes_printable [] h = tt
wholes_printable (y ∷ ys) h = (whole_printable y h.0, wholes_printable ys h.1)

coordinates_printable : (first : ℤ) (ys : Vector) → pos 0 <ℤ first → IsNum first → AllByRecursion IsNum ys
    → AllByRecursion IsPrintable (coordinate_fractions first ys)
coordinates_printable first [] lt k h = tt
coordinates_printable first (y ∷ ys) lt k h =
    (lowest_printable y first lt h.0 k, coordinates_printable first ys lt k h.1)

pub row_printable : (kind : Kind) (v : Vector) → AllByRecursion IsNum v
    → AllByRecursion IsPrintable (row_fractions kind v)
unfolding is_point
row_printable V v h = wholes_printable v h
row_printable H [] h = tt
row_printable H (pos zero ∷ ys) h = wholes_printable (pos zero ∷ ys) h
row_printable H (pos (suc n) ∷ ys) h =
    (whole_printable (pos 1) (omega arith), coordinates_printable (pos (suc n)) ys (omega (arith, lin)) h.0 h.1)
row_printable H (negsuc n ∷ ys) h = wholes_printable (negsuc n ∷ ys) h

pub words_plain : (row : List Fraction) → AllByRecursion IsPrintable row → AllByRecursion IsPlainWord (words_of row)
words_plain [] h = tt
words_plain (f ∷ row) h = (number_word_plain f h.0, words_plain row h.1)

-- ---- as many as entries

pub length-row_fractions : (kind : Kind) (v : Vector) → length (row_fractions kind v) ≡ length v
unfolding is_point
length-row_fractions V v = length-map v whole
length-row_fractions H [] = refl
length-row_fractions H (pos zero ∷ ys) = length-map (pos zero ∷ ys) whole
length-row_fractions H (pos (suc n) ∷ ys) = ap suc (length-map ys (λ (y : ℤ). lowest y (pos (suc n))))
length-row_fractions H (negsuc n ∷ ys) = length-map (negsuc n ∷ ys) whole
