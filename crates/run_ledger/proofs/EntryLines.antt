-- Rows whose line in a listing has their entries as they stand.
use Rattle.std.proofs.Common.{◌≡◌, ◌⊎◌, inl, inr, ℕ, suc, ℤ, pos, negsuc, neg_ℤ, List, [], ◌∷◌, ◌++◌, refl, sym, ap, ap₂, subst, ◌∙◌, append-nil, arith}
use Rattle.std.specs.Prelude.{codes, int_div, unsigned_abs}
use Rattle.std.specs.List.{AllByRecursion}
use Rattle.std.specs.Fmt.{digits, signed_decimal}
use Rattle.std.proofs.Math.Nat.{div-one}
use Rattle.poly_num.specs.Divisors.{gcd_of}
use Rattle.poly_num.specs.Fractions.{lowest}
use Rattle.poly_num.specs.Numbers.{IsNum}
use Rattle.poly_num.specs.Vectors.{Vector}
use Rattle.poly_num.proofs.DivisorLemmas.{gcd_of_comm, one-gcd_of}
use Rattle.poly_model.specs.declared.kind.Kind.TheVariants.{H, V}
use Rattle.poly_model.specs.ListingText.{entry_text, entries_text, fraction_text, denominator_text, coordinates_text, point_text, vector_text, is_point, row_text}
use Rattle.plain_text.specs.Cuts.{CutsWord}
use Rattle.plain_text.proofs.ReadLemmas.{word_is}
use Rattle.plain_text.proofs.NumberLemmas.{signed_decimal_tells, signed_lacks}
use Rattle.job_text.proofs.EntryLemmas.{entries_go_on}

-- ---- over 1
over_one : (y : ℤ) → int_div y (pos 1) ≡ y
over_one (pos n) = ap pos (div-one n)
over_one (negsuc n) = ap (λ (m : ℕ). neg_ℤ (pos m)) (div-one (suc n))

lowest_over_one : (y : ℤ) → lowest y (pos 1) ≡ record { num = y; den = pos 1 }
unfolding lowest
lowest_over_one y =
    let one : gcd_of (unsigned_abs y) 1 ≡ 1 = gcd_of_comm (unsigned_abs y) 1 ∙ one-gcd_of (unsigned_abs y) in
    rw one (ap (λ (z : ℤ). record { num = z; den = pos 1 }) (over_one y))

same_entry : (y : ℤ) → fraction_text (lowest y (pos 1)) ≡ entry_text y
unfolding fraction_text denominator_text
same_entry y = ap fraction_text (lowest_over_one y) ∙ append-nil (entry_text y)

same_entries : (ys : Vector) → coordinates_text (pos 1) ys ≡ entries_text ys
unfolding coordinates_text entries_text
same_entries [] = refl
same_entries (y ∷ ys) = ap₂ (λ (a b : List ℕ). a ++ b) (same_entry y) (same_entries ys)

-- ---- a row of a V file
pub facet_line : (v : Vector) → row_text V v ≡ vector_text v
unfolding row_text
facet_line v = refl

-- ---- a row of an H file
zero_text : signed_decimal (pos 0) ≡ codes "0"
unfolding digits
zero_text = refl

one_text : signed_decimal (pos 1) ≡ codes "1"
unfolding digits
one_text = refl

ray_line : (ys : Vector) → row_text H (pos 0 ∷ ys) ≡ vector_text (pos 0 ∷ ys)
unfolding row_text is_point
ray_line ys = refl

point_line : (ys : Vector) → row_text H (pos 1 ∷ ys) ≡ vector_text (pos 1 ∷ ys)
unfolding row_text is_point point_text vector_text entries_text entry_text
point_line ys =
    ap (λ (text : List ℕ). 32 ∷ 49 ∷ (text ++ 10 ∷ [])) (same_entries ys)
    ∙ ap (λ (one : List ℕ). 32 ∷ ((one ++ entries_text ys) ++ 10 ∷ [])) (sym one_text)

pub line_of_entries : (entries behind word rest : List ℕ) → entries ≡ 32 ∷ behind → CutsWord behind word rest →
    (word ≡ codes "0") ⊎ (word ≡ codes "1") → (v : Vector) → AllByRecursion IsNum v → entries ≡ entries_text v →
    row_text H v ≡ vector_text v
unfolding entries_text entry_text
line_of_entries entries behind word rest at cut is [] nums e =
    absurd (let none : 32 ∷ behind ≡ [] = sym at ∙ e in cc)
line_of_entries entries behind word rest at cut is (y ∷ ys) nums e = elim is [
  | inl zero ↦ subst (λ (x : ℤ). row_text H (x ∷ ys) ≡ vector_text (x ∷ ys))
      (sym (signed_decimal_tells y (pos 0) nums.0 (omega arith) (sym first ∙ zero ∙ sym zero_text))) (ray_line ys)
  | inr one ↦ subst (λ (x : ℤ). row_text H (x ∷ ys) ≡ vector_text (x ∷ ys))
      (sym (signed_decimal_tells y (pos 1) nums.0 (omega arith) (sym first ∙ one ∙ sym one_text))) (point_line ys)
]
  where
    first : word ≡ signed_decimal y
    first = (word_is (signed_decimal y) (entries_text ys) at cut (signed_lacks 32 y nums.0 (omega arith)) (entries_go_on ys) e).0
