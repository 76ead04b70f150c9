-- The numbers of a row are in lowest terms, so its entries are zero or primitive and a positive multiple of them.
use Rattle.std.proofs.Common.{◌≡◌, ◌≢◌, ℕ, zero, suc, pos, Bool, true, false, List, [], ◌∷◌, Option, Some, None, Result, Ok, Err, refl, subst}
use Rattle.std.specs.Prelude.{◌==◌, ◌||◌}
use Rattle.std.proofs.lemmas.Bool.{eqb-false}
use Rattle.poly_num.specs.Fractions.{Fraction, IsReduced, lowest}
use Rattle.poly_num.proofs.FractionLemmas.{lowest_reduced}
use Rattle.poly_reader.specs.declared.bad.BadKind.{BadKind}
use Rattle.poly_reader.specs.declared.bad.BadFile.{BadFile}
use Rattle.poly_reader.specs.Lines.{Word}
use Rattle.plain_text.specs.Digits.{is_negative, signed}
use Rattle.poly_reader.specs.Grammar.{is_wide, unsigned, numerator_of, denominator_of}
use Rattle.poly_reader.specs.Matrix.{sizes_of, fraction_of, number_of, number_on}
use Rattle.poly_reader.specs.Scaling.{scaled_entries}
use Rattle.poly_reader.specs.Rows.{numbers_in}
use Rattle.poly_reader.specs.FirstFault.{◌>>=◌}
use Rattle.poly_reader.specs.Laws.{AreReduced, IsDirectionOf}
use Rattle.poly_reader.proofs.DirectionLaws.{scaled_direction}

nonzero : (q : ℕ) → (q == 0) ≡ false → pos q ≢ pos 0
nonzero q e h = let k : q ≡ 0 = cc in eqb-false q 0 e k

same_reduced : (x y : Fraction) (r : Result Fraction BadKind) → r ≡ Ok x → r ≡ Ok y → IsReduced x → IsReduced y
same_reduced x y r e f h = let k : x ≡ y = cc in subst IsReduced k h

fraction_reduced : (negative : Bool) (above below : Option ℕ) (f : Fraction) →
    fraction_of negative (sizes_of above below) ≡ Ok f
    → IsReduced f
fraction_reduced negative None below f e = absurd cc
fraction_reduced negative (Some p) None f e = absurd cc
fraction_reduced negative (Some p) (Some q) f e = by (q == 0) (is_wide p || is_wide q) refl refl
  where
    by : (b c : Bool) → (q == 0) ≡ b → (is_wide p || is_wide q) ≡ c → IsReduced f
    by true c k l = absurd (cc (rw k at e))
    by false true k l = absurd (cc (rw (k, l) at e))
    by false false k l =
        same_reduced (lowest (signed negative p) (pos q)) f (fraction_of negative (sizes_of (Some p) (Some q)))
        (rw (k, l) refl) e (lowest_reduced (signed negative p) (pos q) (nonzero q k))

number_reduced : (line : ℕ) (text : List ℕ) (f : Fraction) → number_on line (number_of text) ≡ Ok f → IsReduced f
unfolding number_of
number_reduced line text f e =
    by (fraction_of (is_negative text) (sizes_of (numerator_of (unsigned text)) (denominator_of (unsigned text)))) refl
  where
    by : (r : Result Fraction BadKind)
        → fraction_of (is_negative text) (sizes_of (numerator_of (unsigned text)) (denominator_of (unsigned text)))
        ≡ r → IsReduced f
    by (Ok x) k =
        let g : Ok x ≡ Ok f = rw k at e in
        let same : x ≡ f = cc in
        subst IsReduced same
        (fraction_reduced (is_negative text) (numerator_of (unsigned text)) (denominator_of (unsigned text)) x k)
    by (Err b) k = absurd (cc (rw k at e))

first_and_others : (r : Result Fraction BadFile) (o : Result (List Fraction) BadFile) (ys : List Fraction)
    → (r >>= λ x. o >>= λ xs. Ok (x ∷ xs)) ≡ Ok ys
    → (x : Fraction) × (xs : List Fraction) × (r ≡ Ok x) × (o ≡ Ok xs) × (x ∷ xs ≡ ys)
first_and_others (Ok x) (Ok xs) ys e = (x, xs, refl, refl, cc)
first_and_others (Ok x) (Err f) ys e = absurd cc
first_and_others (Err f) o ys e = absurd cc

pub numbers_reduced : (last n : ℕ) (words : List Word) (row : List Fraction) → numbers_in last n words ≡ Ok row →
    AreReduced row
unfolding numbers_in
numbers_reduced last zero words row e = let k : [] ≡ row = cc in subst AreReduced k tt
numbers_reduced last (suc n) [] row e = absurd cc
numbers_reduced last (suc n) (w ∷ words) row e =
    let (x, xs, first, others, k) =
    first_and_others (number_on w.line (number_of w.text)) (numbers_in last n words) row e in
    subst AreReduced k (number_reduced w.line w.text x first, numbers_reduced last n words xs others)

pub row_direction : (last n : ℕ) (words : List Word) (row : List Fraction) → numbers_in last n words ≡ Ok row
    → IsDirectionOf row (scaled_entries row)
row_direction last n words row e = scaled_direction row (numbers_reduced last n words row e)
