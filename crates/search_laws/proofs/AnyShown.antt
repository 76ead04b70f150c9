-- What is shown at a key is shown by each of its tables, and the key is feasible by each.
use Rattle.std.proofs.Common.{◌≡◌, ℕ, Bool, true, false, cond, List, [], ◌∷◌, ℤ, pos, map, refl, sym, ap, subst, ◌∙◌}
use Rattle.std.specs.Prelude.{◌≤ℤ◌, Option, None, Some}
use Rattle.std.specs.List.{Contains, filter}
use Rattle.std.specs.Ordering.{int_eq}
use Rattle.poly_num.specs.Vectors.{Vector}
use Rattle.poly_model.specs.Spaces.{Space}
use Rattle.poly_model.specs.Dictionaries.{Table}
use Rattle.poly_model.specs.LexOrder.{IsPositive, rows_in, order, backwards}
use Rattle.poly_model.specs.Tree.{IsRowDictionary, IsLexFeasible, ShowsPoint, ShowsRay, IsShownAt}
use Rattle.linear_laws.proofs.Members.{Contains-first, Contains-later}
use Rattle.dictionary_laws.specs.Numbers.{Agree}
use Rattle.search_laws.specs.Shares.{ServesToo}
use Rattle.tree_laws.proofs.Numbers.{row_is_label}
use Rattle.tree_laws.proofs.ListOrder.{backwards_only}
use Rattle.tree_laws.proofs.OrderLemmas.{order_only}
use Rattle.tree_laws.proofs.AnyTable.{agree, same_entry, same_list}

-- the values of one column at the members at which another is 0
abbrev where_zero : (ℕ → ℤ) → (ℕ → ℤ) → List ℕ → List ℤ
where_zero f g qs = map f (filter (λ q. int_eq (g q) (pos 0)) qs)

same_where_zero : (f g v w : ℕ → ℤ) (qs : List ℕ) → ((q : ℕ) → Contains qs q → f q ≡ g q) →
    ((q : ℕ) → Contains qs q → v q ≡ w q) → where_zero f v qs ≡ where_zero g w qs
same_where_zero f g v w [] h k = refl
same_where_zero f g v w (q ∷ qs) h k =
    let rest = same_where_zero f g v w qs (λ p c. h p (Contains-later p q qs c))
    (λ p c. k p (Contains-later p q qs c)) in
    first (int_eq (v q) (pos 0)) (h q (Contains-first q qs)) rest
    ∙ ap (λ (z : ℤ). map g (cond (int_eq z (pos 0)) (q ∷ filter (λ q. int_eq (w q) (pos 0)) qs)
    (filter (λ q. int_eq (w q) (pos 0)) qs))) (k q (Contains-first q qs))
  where
    first : (b : Bool) → f q ≡ g q → where_zero f v qs ≡ where_zero g w qs →
        map f (cond b (q ∷ filter (λ q. int_eq (v q) (pos 0)) qs) (filter (λ q. int_eq (v q) (pos 0)) qs))
        ≡ map g (cond b (q ∷ filter (λ q. int_eq (w q) (pos 0)) qs) (filter (λ q. int_eq (w q) (pos 0)) qs))
    first true e r = ap (λ (z : ℤ). z ∷ where_zero f v qs) e ∙ ap (λ xs. g q ∷ xs) r
    first false e r = r

module _ (space : Space) (root key : List ℕ) (t u : Table) (d : IsRowDictionary space key t)
    (e : IsRowDictionary space key u) where
  point_too : ShowsPoint space.labels root key t → ShowsPoint space.labels root key u
  point_too h i o z k c l =
      sym (same_entry space root key t u d e i k o.row c)
      ∙ h i o (Agree.constants (agree space root key t u d e) d.points i (row_is_label space i o.row) ∙ z) k c l

  ray_too : (s : ℕ) → ShowsRay space.labels root key t s → ShowsRay space.labels root key u s
  ray_too s h = record {
    column = h.column;
    none = λ i o. subst (λ (z : ℤ). pos 0 ≤ℤ z) (same_entry space root key t u d e i s o.row h.column) (h.none i o);
    others = λ j c n. subst IsPositive
        (same_where_zero (λ q. t.entry q j) (λ q. u.entry q j) (λ q. t.entry q s) (λ q. u.entry q s)
        (backwards (order space.labels root))
        (λ q m. same_entry space root key t u d e q j (row_at q m) c)
        (λ q m. same_entry space root key t u d e q s (row_at q m) h.column))
        (h.others j c n);
  }
    where
      row_at : (q : ℕ) → Contains (backwards (order space.labels root)) q → Contains (rows_in space.labels) q
      row_at q m = order_only space root q (backwards_only (order space.labels root) q m)

  pub shown_too : (place : Option ℕ) (y : Vector) → IsShownAt space root key t place y →
      IsShownAt space root key u place y
  shown_too None y h = (point_too h.0, h.1)
  shown_too (Some s) y h = (ray_too s h.0, h.1)

  pub feasible_too : IsLexFeasible space root key t → IsLexFeasible space root key u
  feasible_too f = record {
    dictionary = e;
    lists = λ i o. subst IsPositive (same_list space root key t u d e i o.row) (f.lists i o);
  }

  pub serves_too : ServesToo space root key t u
  serves_too = record { feasible = feasible_too; shown = shown_too }
