-- The numbers that the first pass counts are all read in the second: no word is missing, and none is refused.
use Rattle.std.proofs.Common.{◌≡◌, ◌+◌, ℕ, suc, Bool, true, false, List, [], ◌∷◌, Option, Result, Ok, Err, refl, ap, subst, sym, ◌∙◌, arith}
use Rattle.std.specs.Prelude.{◌==◌, codes}
use Rattle.poly_num.specs.Fractions.{Fraction}
use Rattle.poly_reader.specs.declared.bad.BadFile.{BadFile}
use Rattle.poly_reader.specs.Lines.{Word, is_word}
use Rattle.poly_reader.specs.Matrix.{Matrix, matrix_of, ended, is_enough, number_of, number_on, most}
use Rattle.poly_reader.specs.Rows.{numbers_in}
use Rattle.poly_reader.specs.Laws.{AreReadAgain}
use Rattle.poly_reader.proofs.MatrixLemmas.{at_end, too_many, no_number, one_number}

-- the numbers that are left are read
record IsLeft (last count : ℕ) (words : List Word) (m : Matrix) : Type 0 where
  left : ℕ
  sum : count + left ≡ m.count
  again : AreReadAgain last left words

same_count : (x y : Matrix) (r : Result Matrix BadFile) → r ≡ Ok x → r ≡ Ok y → x.count ≡ y.count
same_count x y r e f = let k : x ≡ y = cc in ap (λ (z : Matrix). z.count) k

count_at_end : (b : Bool) (rows : Option ℕ) (n count line : ℕ) (words : List Word) (m : Matrix) →
    is_enough rows n count ≡ b
    → ended rows n count line words ≡ Ok m → count ≡ m.count
count_at_end true rows n count line words m t e =
    same_count (record { count = count; end_line = line; words = words }) m (ended rows n count line words)
    (rw t refl) e
count_at_end false rows n count line words m t e = absurd (cc (rw t at e))

no_more : (last count : ℕ) (words : List Word) (m : Matrix) → count ≡ m.count → IsLeft last count words m
unfolding numbers_in
no_more last count words m e = record {
  left = 0;
  sum = omega arith;
  again = record { numbers = []; read = refl; whole = refl };
}

one_more : (last count : ℕ) (x : Fraction) (w : Word) (words : List Word) (m : Matrix)
    → number_on w.line (number_of w.text) ≡ Ok x → IsLeft last (count + 1) words m → IsLeft last count (w ∷ words) m
unfolding numbers_in
one_more last count x w words m e h = record {
  left = suc h.left;
  sum = omega (arith, h.sum);
  again = record { numbers = x ∷ h.again.numbers; read = rw (e, h.again.read) refl; whole = ap suc h.again.whole };
}

left_from : (last : ℕ) (rows : Option ℕ) (n count : ℕ) (words : List Word) (m : Matrix)
    → matrix_of last rows n count words ≡ Ok m → IsLeft last count words m
unfolding matrix_of
left_from last rows n count [] m e = absurd cc
left_from last rows n count (w ∷ words) m e =
    by (is_word w (codes "end")) (count == most rows n) (number_on w.line (number_of w.text)) refl refl refl
    (left_from last rows n (count + 1) words m)
  where
    by : (b c : Bool) (r : Result Fraction BadFile) → is_word w (codes "end") ≡ b → (count == most rows n) ≡ c
        → number_on w.line (number_of w.text) ≡ r
        → (matrix_of last rows n (count + 1) words ≡ Ok m → IsLeft last (count + 1) words m)
        → IsLeft last count (w ∷ words) m
    by true c r p q k f =
        no_more last count (w ∷ words) m (count_at_end (is_enough rows n count) rows n count w.line words m refl
        (sym (at_end last rows n count w (w ∷ words) words refl p) ∙ e))
    by false true r p q k f = let z = sym (too_many last rows n count w (w ∷ words) words refl p q) ∙ e in absurd cc
    by false false (Err b) p q k f =
        let z = sym (no_number last rows n count b w (w ∷ words) words refl p q k) ∙ e in absurd cc
    by false false (Ok x) p q k f =
        one_more last count x w words m k
        (f (one_number last rows n count w (w ∷ words) words refl p q (rw k refl) ∙ e))

pub read_again : (last : ℕ) (rows : Option ℕ) (n : ℕ) (words : List Word) (m : Matrix) →
    matrix_of last rows n 0 words ≡ Ok m
    → AreReadAgain last m.count words
read_again last rows n words m e =
    let h = left_from last rows n 0 words m e in
    let k : h.left ≡ m.count = omega (arith, h.sum) in
    subst (λ (c : ℕ). AreReadAgain last c words) k h.again
