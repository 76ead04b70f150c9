-- The columns of a neighbour, from the numbers of the dictionary: that of the row that took the place is that of the
-- label turned, and each other one has the neighbour entries, up to positive factors.
use Rattle.std.proofs.Common.{◌≡◌, ◌≢◌, inl, inr, ℕ, Bool, true, false, cond, List, [], ◌∷◌, ℤ, pos, ◌+ℤ◌, ◌-ℤ◌, ◌*ℤ◌, neg_ℤ, map, refl, sym, ap, subst, ◌∙◌, arith}
use Rattle.std.specs.Prelude.{◌<ℤ◌, ◌==◌, Some}
use Rattle.std.specs.List.{Contains}
use Rattle.poly_num.proofs.Ring.{expand, lin}
use Rattle.poly_num.proofs.Order.{positive_product, positive_factor, zero_factor, positive_nonzero}
use Rattle.poly_model.specs.Spaces.{Space}
use Rattle.poly_model.specs.Dictionaries.{Table}
use Rattle.poly_model.specs.LexOrder.{IsPositive, rows_in}
use Rattle.poly_model.specs.Tree.{IsRowDictionary, IsRowOutside}
use Rattle.linear_laws.proofs.Members.{Contains-first, Contains-later}
use Rattle.dictionary_laws.specs.Keys.{Exchanges}
use Rattle.dictionary_laws.specs.Numbers.{IsOwnRow}
use Rattle.dictionary_laws.proofs.Members.{sum_single}
use Rattle.dictionary_laws.proofs.Directions.{times_zero}
use Rattle.dictionary_laws.proofs.Duals.{distinct}
use Rattle.dictionary_laws.proofs.Values.{own_row}
use Rattle.search_laws.specs.ChildTest.{neighbour_entry}
use Rattle.tree_laws.proofs.Numbers.{row_is_label, number_at, number_inside, composed_entry}
use Rattle.tree_laws.proofs.Levels.{itself, itself_apart, level}
use Rattle.tree_laws.proofs.Exchange.{exchanged_level}

-- ---- lists that are equal up to positive factors, at their members
module _ {X : Type 0} (p q : ℤ) (h : pos 0 <ℤ p) (k : pos 0 <ℤ q) (f g : X → ℤ) where
  first_zero : (x : X) → p *ℤ f x ≡ q *ℤ g x → f x ≡ pos 0 → g x ≡ pos 0
  first_zero x e z = zero_factor q (g x) (sym e ∙ times_zero p (f x) z) (positive_nonzero q k)

  pub positive_at_members : (xs : List X) → ((x : X) → Contains xs x → p *ℤ f x ≡ q *ℤ g x) →
      IsPositive (map f xs) → IsPositive (map g xs)
  positive_at_members [] e l = l
  positive_at_members (x ∷ xs) e (inl l) =
      inl (positive_factor q (g x) k
      (subst (λ (z : ℤ). pos 0 <ℤ z) (e x (Contains-first x xs)) (positive_product p (f x) h l)))
  positive_at_members (x ∷ xs) e (inr l) = inr (
    first_zero x (e x (Contains-first x xs)) l.0,
    positive_at_members xs (λ y c. e y (Contains-later y x xs c)) l.1,
  )

-- ---- the numbers of a neighbour
turn : (D y u w : ℤ) → D *ℤ y ≡ u *ℤ w → D *ℤ neg_ℤ y ≡ neg_ℤ w *ℤ u
turn D y u w h = simp expand (omega (arith, lin))

-- the law of the lists of a neighbour at the place of j, solved for the entry; here: of row j itself, else of another
solved_here : (D E x y a v u : ℤ) →
    (neg_ℤ x *ℤ D) *ℤ (E -ℤ u) ≡ E *ℤ (neg_ℤ x *ℤ (D -ℤ a) -ℤ neg_ℤ y *ℤ neg_ℤ v) →
    (neg_ℤ x *ℤ D) *ℤ neg_ℤ u ≡ E *ℤ neg_ℤ (neg_ℤ x *ℤ a +ℤ y *ℤ v)
solved_here D E x y a v u h = let f = simp expand at h in simp expand (omega (arith, lin))

solved_apart : (D E x y a v u z : ℤ) → z ≡ pos 0 →
    (neg_ℤ x *ℤ D) *ℤ (z -ℤ u) ≡ E *ℤ (neg_ℤ x *ℤ (z -ℤ a) -ℤ neg_ℤ y *ℤ neg_ℤ v) →
    (neg_ℤ x *ℤ D) *ℤ neg_ℤ u ≡ E *ℤ neg_ℤ (neg_ℤ x *ℤ a +ℤ y *ℤ v)
solved_apart D E x y a v u z e h =
    let f = simp expand at h in
    let k = times_zero D (x *ℤ z) (times_zero x z e) in
    let l = times_zero E (x *ℤ z) (times_zero x z e) in
    simp expand (omega (arith, lin))

solved_either : (b : Bool) (D E x y a v u : ℤ) →
    (neg_ℤ x *ℤ D) *ℤ (cond b E (pos 0) -ℤ u)
    ≡ E *ℤ (neg_ℤ x *ℤ (cond b D (pos 0) -ℤ a) -ℤ neg_ℤ y *ℤ neg_ℤ v) →
    (neg_ℤ x *ℤ D) *ℤ neg_ℤ u ≡ E *ℤ neg_ℤ (neg_ℤ x *ℤ a +ℤ y *ℤ v)
solved_either true D E x y a v u h = solved_here D E x y a v u h
solved_either false D E x y a v u h = solved_apart D E x y a v u (pos 0) refl h

module _ (space : Space) (key new : List ℕ) (t u : Table) (d : IsRowDictionary space key t)
    (e : IsRowDictionary space new u) (s r : ℕ) (c : Contains key s) (o : IsRowOutside space.labels key r)
    (x : Exchanges key new r s) where
  -- the column of r is that of s, turned
  pub column_r : (q : ℕ) → Contains (rows_in space.labels) q →
      t.denominator *ℤ neg_ℤ (u.entry q r) ≡ neg_ℤ (u.entry s r) *ℤ t.entry q s
  column_r q l =
      turn t.denominator (u.entry q r) (t.entry q s) (u.entry s r)
      (composed_entry space key new t u d e q (row_is_label space q l) r x.entering
      ∙ sum_single s key (λ k. t.entry q k *ℤ u.entry k r) (distinct space key d.dictionary.cobasis) c
      (λ k m n. times_zero (t.entry q k) (u.entry k r)
      (IsOwnRow.elsewhere (own_row space new e.dictionary.cobasis u e.dictionary.writes k (x.kept k m n)) r x.entering
      (λ f. o.outside (subst (Contains key) (sym f) m)))))

  -- that of another label has the neighbour entries
  module _ (j : ℕ) (m : Contains key j) (n : j ≢ s) where
    level_r : level key t r (Some j) ≡ neg_ℤ (t.entry r j)
    level_r =
        less (itself j r t.denominator) (number_at key t r j) (t.entry r j)
        (itself_apart j r t.denominator (λ f. o.outside (subst (Contains key) f m))) (number_inside key t r j m)
      where
        less : (a b c : ℤ) → a ≡ pos 0 → b ≡ c → a -ℤ b ≡ neg_ℤ c
        less a b c e f = omega (arith, lin)

    pub column_j : (q : ℕ) → Contains (rows_in space.labels) q →
        (neg_ℤ (t.entry r s) *ℤ t.denominator) *ℤ neg_ℤ (u.entry q j)
        ≡ u.denominator *ℤ neg_ℤ (neighbour_entry t s r j q)
    column_j q l =
        solved_either (j == q) t.denominator u.denominator (t.entry r s) (t.entry q s) (t.entry q j) (t.entry r j)
        (u.entry q j)
        (ap (λ (z : ℤ). (neg_ℤ (t.entry r s) *ℤ t.denominator) *ℤ (itself j q u.denominator -ℤ z))
        (sym (number_inside new u q j (x.kept j m n)))
        ∙ exchanged_level space key new t u d e s r c o x q l (Some j)
        ∙ ap (λ (z : ℤ). u.denominator *ℤ (neg_ℤ (t.entry r s) *ℤ (itself j q t.denominator -ℤ z)
        -ℤ neg_ℤ (t.entry q s) *ℤ level key t r (Some j))) (number_inside key t q j m)
        ∙ ap (λ (z : ℤ). u.denominator *ℤ (neg_ℤ (t.entry r s) *ℤ (itself j q t.denominator -ℤ t.entry q j)
        -ℤ neg_ℤ (t.entry q s) *ℤ z)) level_r)
