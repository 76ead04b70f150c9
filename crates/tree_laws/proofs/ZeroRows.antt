-- The rows that are 0 along what is shown, the greatest first: no column of the cobasis is negative on them.
use Rattle.std.proofs.Common.{◌≡◌, ⊎_elim, ℕ, Bool, true, cond, List, [], ◌∷◌, ℤ, pos, map, refl, ap, subst, ◌∙◌, arith}
use Rattle.std.specs.Ordering.{int_eq}
use Rattle.std.specs.List.{Contains, filter}
use Rattle.std.proofs.lemmas.Bool.{cases_eq}
use Rattle.std.proofs.lemmas.Int.{ints}
use Rattle.poly_num.specs.Vectors.{Vector, ◌·◌}
use Rattle.poly_model.specs.Spaces.{Space}
use Rattle.poly_model.specs.Dictionaries.{Table}
use Rattle.poly_model.specs.LexOrder.{IsNonnegative, IsPositive, rows_in, order, backwards}
use Rattle.poly_model.specs.Tree.{IsRowDictionary, ShowsRay, IsAlongColumn}
use Rattle.linear_laws.proofs.Members.{Contains-first, Contains-later}
use Rattle.dictionary_laws.proofs.Filters.{filter_only, filter_kept}
use Rattle.tree_laws.proofs.ListSums.{zero_from}
use Rattle.tree_laws.proofs.LexLemmas.{positive_is_nonnegative, zero_is_nonnegative}
use Rattle.tree_laws.proofs.ListOrder.{backwards_has, backwards_only}
use Rattle.tree_laws.proofs.OrderLemmas.{order_has, order_only}
use Rattle.tree_laws.proofs.RayValues.{zero_entry, zero_along}

same_tests : (a b : ℤ) → (a ≡ pos 0 → b ≡ pos 0) → (b ≡ pos 0 → a ≡ pos 0) → int_eq a (pos 0) ≡ int_eq b (pos 0)
same_tests a b back forth = grind (arith, ints)

passes : (x : ℤ) → x ≡ pos 0 → int_eq x (pos 0) ≡ true
passes x e = grind (arith, ints)

passed : (x : ℤ) → int_eq x (pos 0) ≡ true → x ≡ pos 0
passed x e = grind (arith, ints)

filter_same : (test other : ℕ → Bool) (xs : List ℕ) → ((k : ℕ) → Contains xs k → test k ≡ other k) →
    filter test xs ≡ filter other xs
filter_same test other [] h = refl
filter_same test other (x ∷ xs) h =
    ap (λ b. cond b (x ∷ filter test xs) (filter test xs)) (h x (Contains-first x xs))
    ∙ ap (λ ks. cond (other x) (x ∷ ks) ks) (filter_same test other xs (λ k c. h k (Contains-later k x xs c)))

module _ (space : Space) (root : List ℕ) where
  abbrev pub zero_rows : Vector → List ℕ
  zero_rows y = filter (λ q. int_eq (space.form q · y) (pos 0)) (backwards (order space.labels root))

  pub zero_rows_only : (y : Vector) (q : ℕ) → Contains (zero_rows y) q →
      Contains (rows_in space.labels) q × (space.form q · y ≡ pos 0)
  zero_rows_only y q c =
      let w = filter_only (λ q. int_eq (space.form q · y) (pos 0)) (backwards (order space.labels root)) q c in
      (order_only space root q (backwards_only (order space.labels root) q w.0), passed (space.form q · y) w.1)

  pub zero_rows_has : (y : Vector) (q : ℕ) → Contains (rows_in space.labels) q → space.form q · y ≡ pos 0 →
      Contains (zero_rows y) q
  zero_rows_has y q l e =
      filter_kept (λ q. int_eq (space.form q · y) (pos 0)) (backwards (order space.labels root)) q
      (backwards_has (order space.labels root) q (order_has space root q l)) (passes (space.form q · y) e)

  module _ (key : List ℕ) (t : Table) (d : IsRowDictionary space key t) (s : ℕ) (m : Contains key s) (y : Vector)
      (along : IsAlongColumn space key s y) where
    -- the rows that are 0 in the column are those that are 0 at y
    pub zeros_in_column :
        filter (λ q. int_eq (t.entry q s) (pos 0)) (backwards (order space.labels root)) ≡ zero_rows y
    zeros_in_column =
        filter_same (λ q. int_eq (t.entry q s) (pos 0)) (λ q. int_eq (space.form q · y) (pos 0))
        (backwards (order space.labels root))
        (λ q c. let l = order_only space root q (backwards_only (order space.labels root) q c) in
        same_tests (t.entry q s) (space.form q · y) (zero_along space key t d s m y along q l)
        (zero_entry space key t d s m y along q l))

    pub columns_up : ShowsRay space.labels root key t s → (j : ℕ) → Contains key j →
        IsNonnegative (map (λ q. t.entry q j) (zero_rows y))
    columns_up shown j c =
        ⊎_elim
        (λ (e : j ≡ s). zero_is_nonnegative (map (λ q. t.entry q j) (zero_rows y))
        (zero_from (λ q. t.entry q j) (zero_rows y)
        (λ q i. let w = zero_rows_only y q i in
        ap (λ k. t.entry q k) e ∙ zero_entry space key t d s m y along q w.0 w.1)))
        (λ (n : j ≡ s → ⊥). positive_is_nonnegative (map (λ q. t.entry q j) (zero_rows y))
        (subst (λ qs. IsPositive (map (λ q. t.entry q j) qs)) zeros_in_column (shown.others j c n)))
        (cases_eq j s)
