-- How the sign in a column after an exchange is found: rows that are 0 do not count, and the first that is not decides.
use Rattle.std.proofs.Common.{◌≡◌, ◌≢◌, ◌⊎◌, ◌↔◌, inl, inr, ⊎_elim, ℕ, List, [], ◌∷◌, ◌++◌, ℤ, pos, ◌+ℤ◌, ◌*ℤ◌, neg_ℤ, map, sym, ap, subst, ◌∙◌, arith}
use Rattle.std.specs.Prelude.{◌<ℤ◌}
use Rattle.std.specs.List.{Contains}
use Rattle.poly_num.proofs.Ring.{expand, lin, one_mul}
use Rattle.poly_num.proofs.Order.{positive_product, positive_factor, zero_factor, positive_nonzero}
use Rattle.poly_model.specs.Spaces.{Space}
use Rattle.poly_model.specs.Dictionaries.{Table}
use Rattle.poly_model.specs.LexOrder.{IsPositive}
use Rattle.poly_model.specs.Tree.{IsRowDictionary, MayEnter}
use Rattle.linear_laws.proofs.Members.{Contains-first, Contains-later}
use Rattle.linear_laws.proofs.Signs.{minus_positive}
use Rattle.dictionary_laws.specs.Numbers.{IsOwnRow}
use Rattle.dictionary_laws.proofs.Directions.{times_zero, zero_times}
use Rattle.dictionary_laws.proofs.Values.{own_row}
use Rattle.search_laws.specs.ChildTest.{neighbour_entry, downward, WouldEnter, AreNeighbourEntries}
use Rattle.search_laws.proofs.NeighbourColumns.{positive_at_members}

-- ---- sums of two products, of which one is 0
same_row : (x v : ℤ) → neg_ℤ x *ℤ v +ℤ x *ℤ v ≡ pos 0
same_row x v = simp expand (omega (arith, lin))

first_alone : (a b u v : ℤ) → u *ℤ v ≡ pos 0 → a *ℤ b +ℤ u *ℤ v ≡ a *ℤ b
first_alone a b u v z = omega (arith, lin)

last_alone : (a b u v : ℤ) → a *ℤ b ≡ pos 0 → a *ℤ b +ℤ u *ℤ v ≡ u *ℤ v
last_alone a b u v z = omega (arith, lin)

minus_product : (a b : ℤ) → neg_ℤ (a *ℤ b) ≡ a *ℤ neg_ℤ b
minus_product a b = simp expand (omega (arith, lin))

minus_zero : (a b : ℤ) → a ≡ pos 0 → b ≡ pos 0 → neg_ℤ (a +ℤ b) ≡ pos 0
minus_zero a b e f = omega (arith, lin)

less_is_minus : (x : ℤ) → (x <ℤ pos 0) ↔ (pos 0 <ℤ neg_ℤ x)
less_is_minus x = (λ h. omega (arith, lin), λ h. omega (arith, lin))

-- the first of a list decides where it is not 0
decides : (a x y : ℤ) (X : Type 0) → pos 0 <ℤ a → x ≡ a *ℤ neg_ℤ y → y ≢ pos 0 →
    ((pos 0 <ℤ x) ⊎ ((x ≡ pos 0) × X)) ↔ (y <ℤ pos 0)
decides a x y X up e n = (
  λ h. ⊎_elim
      (λ (l : pos 0 <ℤ x). (less_is_minus y).1
      (positive_factor a (neg_ℤ y) up (subst (λ (z : ℤ). pos 0 <ℤ z) e l)))
      (λ (z : (x ≡ pos 0) × X). absurd (n (minus (zero_factor a (neg_ℤ y) (sym e ∙ z.0) (positive_nonzero a up))))) h,
  λ l. inl (subst (λ (z : ℤ). pos 0 <ℤ z) (sym e) (positive_product a (neg_ℤ y) up ((less_is_minus y).0 l))),
)
  where
    minus : neg_ℤ y ≡ pos 0 → y ≡ pos 0
    minus z = omega (arith, lin)

module _ (space : Space) (root key : List ℕ) (t : Table) (d : IsRowDictionary space key t) (s r j : ℕ)
    (c : Contains key s) (m : Contains key j) (n : j ≢ s) (l : t.entry r s <ℤ pos 0) where
  own_s : IsOwnRow space key t s
  own_s = own_row space key d.dictionary.cobasis t d.dictionary.writes s c

  own_j : IsOwnRow space key t j
  own_j = own_row space key d.dictionary.cobasis t d.dictionary.writes j m

  at_s : neighbour_entry t s r j s ≡ t.denominator *ℤ t.entry r j
  at_s =
      last_alone (neg_ℤ (t.entry r s)) (t.entry s j) (t.entry s s) (t.entry r j)
      (times_zero (neg_ℤ (t.entry r s)) (t.entry s j) (own_s.elsewhere j m n))
      ∙ ap (λ (z : ℤ). z *ℤ t.entry r j) own_s.here

  at_j : neighbour_entry t s r j j ≡ neg_ℤ (t.entry r s) *ℤ t.denominator
  at_j =
      first_alone (neg_ℤ (t.entry r s)) (t.entry j j) (t.entry j s) (t.entry r j)
      (zero_times (t.entry j s) (t.entry r j) (own_j.elsewhere s c (λ e. n (sym e))))
      ∙ ap (λ (z : ℤ). neg_ℤ (t.entry r s) *ℤ z) own_j.here

  up : pos 0 <ℤ neg_ℤ (t.entry r s)
  up = minus_positive (t.entry r s) l

  -- where row q is 0 in the column of s, or row r in that of j
  one_part : (q : ℕ) → t.entry q s *ℤ t.entry r j ≡ pos 0 →
      neg_ℤ (neighbour_entry t s r j q) ≡ neg_ℤ (t.entry r s) *ℤ neg_ℤ (t.entry q j)
  one_part q z =
      ap neg_ℤ (first_alone (neg_ℤ (t.entry r s)) (t.entry q j) (t.entry q s) (t.entry r j) z)
      ∙ minus_product (neg_ℤ (t.entry r s)) (t.entry q j)

  one_up : pos 0 <ℤ pos 1
  one_up = omega (arith, Rattle.std.proofs.lemmas.Int.ints)

  once : (x y : ℤ) → x ≡ y → pos 1 *ℤ x ≡ y
  once x y e = one_mul x ∙ e

  kept : t.entry r j ≡ pos 0 → WouldEnter t s r j (downward space.labels root) ↔ MayEnter space.labels root t j
  kept z = (
    positive_at_members (pos 1) (neg_ℤ (t.entry r s)) one_up up (λ q. neg_ℤ (neighbour_entry t s r j q))
        (λ q. neg_ℤ (t.entry q j)) (downward space.labels root) (λ q _. part q),
    positive_at_members (neg_ℤ (t.entry r s)) (pos 1) up one_up (λ q. neg_ℤ (t.entry q j))
        (λ q. neg_ℤ (neighbour_entry t s r j q)) (downward space.labels root) (λ q _. sym (part q)),
  )
    where
      part : (q : ℕ) → pos 1 *ℤ neg_ℤ (neighbour_entry t s r j q) ≡ neg_ℤ (t.entry r s) *ℤ neg_ℤ (t.entry q j)
      part q =
          once (neg_ℤ (neighbour_entry t s r j q)) (neg_ℤ (t.entry r s) *ℤ neg_ℤ (t.entry q j))
          (one_part q (times_zero (t.entry q s) (t.entry r j) z))

  none_at : (q : ℕ) → (t.entry q s ≡ pos 0) × (t.entry q j ≡ pos 0) → neg_ℤ (neighbour_entry t s r j q) ≡ pos 0
  none_at q z =
      minus_zero (neg_ℤ (t.entry r s) *ℤ t.entry q j) (t.entry q s *ℤ t.entry r j)
      (times_zero (neg_ℤ (t.entry r s)) (t.entry q j) z.1) (zero_times (t.entry q s) (t.entry r j) z.0)

  not_first : {X : Type 0} (x : ℤ) → x ≡ pos 0 → (pos 0 <ℤ x) ⊎ ((x ≡ pos 0) × X) → X
  not_first x e (inl h) = absurd (omega (arith, lin))
  not_first x e (inr h) = h.1

  skip : (front back : List ℕ) →
      ((q : ℕ) → Contains front q → (t.entry q s ≡ pos 0) × (t.entry q j ≡ pos 0)) →
      WouldEnter t s r j (front ++ back) ↔ WouldEnter t s r j back
  skip [] back h = (λ w. w, λ w. w)
  skip (q ∷ front) back h =
      let v = skip front back (λ k e. h k (Contains-later k q front e)) in
      let z = none_at q (h q (Contains-first q front)) in
      (λ w. v.0 (not_first (neg_ℤ (neighbour_entry t s r j q)) z w), λ w. inr (z, v.1 w))

  s_first : (q : ℕ) (qs : List ℕ) → t.entry q j ≡ pos 0 → pos 0 <ℤ t.entry q s → t.entry r j ≢ pos 0 →
      WouldEnter t s r j (q ∷ qs) ↔ (t.entry r j <ℤ pos 0)
  s_first q qs z above o =
      decides (t.entry q s) (neg_ℤ (neighbour_entry t s r j q)) (t.entry r j)
      (IsPositive (map (λ q. neg_ℤ (neighbour_entry t s r j q)) qs)) above
      (ap neg_ℤ (last_alone (neg_ℤ (t.entry r s)) (t.entry q j) (t.entry q s) (t.entry r j)
      (times_zero (neg_ℤ (t.entry r s)) (t.entry q j) z))
      ∙ minus_product (t.entry q s) (t.entry r j)) o

  j_first : (q : ℕ) (qs : List ℕ) → t.entry q s ≡ pos 0 → t.entry q j ≢ pos 0 →
      WouldEnter t s r j (q ∷ qs) ↔ (t.entry q j <ℤ pos 0)
  j_first q qs z o =
      decides (neg_ℤ (t.entry r s)) (neg_ℤ (neighbour_entry t s r j q)) (t.entry q j)
      (IsPositive (map (λ q. neg_ℤ (neighbour_entry t s r j q)) qs)) up
      (one_part q (zero_times (t.entry q s) (t.entry r j) z)) o

  pub are_neighbour_entries : AreNeighbourEntries t s r space.labels root j
  are_neighbour_entries = record {
    at_r = same_row (t.entry r s) (t.entry r j);
    at_s = at_s;
    at_j = at_j;
    kept = kept;
    skip = skip;
    s_first = s_first;
    j_first = j_first;
  }
