-- The numbers, one after the other.
use Rattle.std.proofs.Common.{◌≡◌, ◌+◌, ℕ, true, false, List, [], ◌∷◌, Option, Result, Ok, Err, refl}
use Rattle.std.specs.Prelude.{◌==◌, codes, IsOk}
use Rattle.poly_num.specs.Fractions.{Fraction}
use Rattle.poly_reader.specs.declared.bad.BadFile.{BadFile}
use Rattle.poly_reader.specs.declared.bad.BadKind.TheVariants.{NoEnd}
use Rattle.poly_reader.specs.Lines.{Word, is_word}
use Rattle.poly_reader.specs.Matrix.{matrix_of, ended, number_of, number_on, most, excess}
use Rattle.poly_reader.specs.FirstFault.{bad}

pub no_end : (last : ℕ) (rows : Option ℕ) (n count : ℕ) (words : List Word) → words ≡ []
    → matrix_of last rows n count words ≡ bad NoEnd last
unfolding matrix_of
no_end last rows n count words z = rw z refl

pub at_end : (last : ℕ) (rows : Option ℕ) (n count : ℕ) (w : Word) (words rest : List Word) → words ≡ w ∷ rest
    → is_word w (codes "end") ≡ true → matrix_of last rows n count words ≡ ended rows n count w.line rest
unfolding matrix_of
at_end last rows n count w words rest z e = rw (z, e) refl

pub too_many : (last : ℕ) (rows : Option ℕ) (n count : ℕ) (w : Word) (words rest : List Word) → words ≡ w ∷ rest
    → is_word w (codes "end") ≡ false → (count == most rows n) ≡ true
    → matrix_of last rows n count words ≡ bad (excess rows) w.line
unfolding matrix_of
too_many last rows n count w words rest z e f = rw (z, e, f) refl

pub no_number : (last : ℕ) (rows : Option ℕ) (n count : ℕ) (f : BadFile) (w : Word) (words rest : List Word)
    → words ≡ w ∷ rest → is_word w (codes "end") ≡ false → (count == most rows n) ≡ false
    → number_on w.line (number_of w.text) ≡ Err f → matrix_of last rows n count words ≡ Err f
unfolding matrix_of
no_number last rows n count f w words rest z e m h = rw (z, e, m, h) refl

pub one_number : (last : ℕ) (rows : Option ℕ) (n count : ℕ) (w : Word) (words rest : List Word)
    → words ≡ w ∷ rest → is_word w (codes "end") ≡ false → (count == most rows n) ≡ false
    → IsOk (number_on w.line (number_of w.text))
    → matrix_of last rows n (count + 1) rest ≡ matrix_of last rows n count words
unfolding matrix_of
one_number last rows n count w words rest z e m ok = by (number_on w.line (number_of w.text)) refl ok
  where
    by : (r : Result Fraction BadFile) → number_on w.line (number_of w.text) ≡ r → IsOk r
        → matrix_of last rows n (count + 1) rest ≡ matrix_of last rows n count words
    by (Ok x) h ok = rw (z, e, m, h) refl
    by (Err f) h ok = absurd cc
