-- The test of a child decides, in each space.
use Rattle.std.proofs.Common.{◌≡◌, ◌↔◌, ℕ, ℤ, neg_ℤ, ◌+ℤ◌, ◌*ℤ◌, Bool, List, ◌<ℤ◌, pos, map, refl, sym, ap, subst, ◌∙◌, arith, Ordering}
use Rattle.std.specs.Bool.{IsTrue}
use Rattle.std.specs.List.{Contains}
use Rattle.std.specs.declared.cmp.Ordering.TheVariants.{Less}
use Rattle.poly_num.specs.Signs.{lex_sign_of}
use Rattle.poly_model.specs.Keys.{IsAscending}
use Rattle.poly_model.specs.Dictionaries.{Table}
use Rattle.poly_model.specs.LexOrder.{rows_in}
use Rattle.poly_model.specs.Tree.{Leaves}
use Rattle.linear_laws.specs.Distinct.{AreDistinct}
use Rattle.search_laws.specs.ChildTest.{IsDown, WouldEnter, neighbour_entry}
use Rattle.search_laws.proofs.ChildTest.{child_by_test}
use Rattle.dictionary.specs.Views.{Dictionary, table_of}
use Rattle.lex_pivot.specs.Children.{DecidesChild}
use Rattle.lex_pivot.proofs.EarlierLemmas.{rows_distinct}
use Rattle.lex_pivot.proofs.FirstSigns.{values_less, same_signs}
use Rattle.lex_pivot.proofs.SignLemmas.{over_zero}
use Rattle.poly_num.proofs.Ring.{lin}

pub decides : (d : Dictionary) (root : List ℕ) (s r : ℕ) (b : Bool) → IsAscending d.labels → Contains d.key s →
    Leaves d.labels root d.key (table_of d) s r → IsTrue b ↔ IsDown d.labels root d.key (table_of d) s r →
    DecidesChild d root s r b
decides d root s r b up c l h space home e k f =
    let law = child_by_test space root d.key home (table_of d)
    (subst (λ ls. AreDistinct (rows_in ls)) e (rows_distinct d.labels root up)) k f s r c
    (subst (λ ls. Leaves ls root d.key (table_of d) s r) e l) in (
      (λ t. law.1 (subst (λ ls. IsDown ls root d.key (table_of d) s r) e (h.0 t))),
      (λ x. h.1 (subst (λ ls. IsDown ls root d.key (table_of d) s r) (sym e) (law.0 x))),
    )

-- the sign of the sum that the code reads
pub sum_enters : (t : Table) (s r j : ℕ) (p f : ℤ) (qs : List ℕ) (o : Ordering) → p ≡ neg_ℤ (t.entry r s) →
    f ≡ t.entry r j → o ≡ lex_sign_of (map (λ q. p *ℤ t.entry q j +ℤ t.entry q s *ℤ f) qs) →
    (o ≡ Less) ↔ WouldEnter t s r j qs
sum_enters t s r j p f qs o g h e =
    values_less (neighbour_entry t s r j) qs o
    (e ∙ ap (λ x. lex_sign_of (map (λ q. x *ℤ t.entry q j +ℤ t.entry q s *ℤ f) qs)) g
    ∙ ap (λ x. lex_sign_of (map (λ q. neg_ℤ (t.entry r s) *ℤ t.entry q j +ℤ t.entry q s *ℤ x) qs)) h)

-- where row r is 0 in the column of j, that is as it was
pub lead_enters : (t : Table) (s r j : ℕ) (qs : List ℕ) (o : Ordering) → t.entry r s <ℤ pos 0 → t.entry r j ≡ pos 0 →
    o ≡ lex_sign_of (map (λ q. t.entry q j) qs) → (o ≡ Less) ↔ WouldEnter t s r j qs
lead_enters t s r j qs o n z e =
    sum_enters t s r j (neg_ℤ (t.entry r s)) (t.entry r j) qs o refl refl
    (e ∙ same_signs (λ q. t.entry q j) (λ q. neg_ℤ (t.entry r s) *ℤ t.entry q j +ℤ t.entry q s *ℤ t.entry r j)
    (λ q. over_zero (t.entry q j) (t.entry q s) (neg_ℤ (t.entry r s)) (t.entry r j) (omega (arith, lin)) z) qs)
