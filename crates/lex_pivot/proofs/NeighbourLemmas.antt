-- The lead of a column after a pivot, by the leads of two columns before it.
use Rattle.std.proofs.Common.{◌≡◌, ◌≢◌, ℕ, ◌-◌, ◌<◌, ◌≤◌, ℤ, pos, neg_ℤ, ◌+ℤ◌, ◌*ℤ◌, ◌<ℤ◌, List, length, map, get_or, refl, sym, ap, subst, ◌∙◌, arith, Ordering}
use Rattle.std.specs.List.{Contains}
use Rattle.std.specs.Ordering.{MatchOrdering}
use Rattle.std.specs.Cmp.{int_ranks}
use Rattle.std.specs.declared.cmp.Ordering.TheVariants.{Less, Equal, Greater}
use Rattle.std.proofs.lemmas.List.{get_or_default}
use Rattle.poly_num.proofs.Ring.{lin, mul_zero}
use Rattle.poly_num.specs.Signs.{sign_of, lex_sign_of}
use Rattle.poly_model.specs.Keys.{IsAscending}
use Rattle.poly_model.specs.Dictionaries.{Table}
use Rattle.poly_model.specs.LexOrder.{within}
use Rattle.search_laws.specs.ChildTest.{LeadsUp, neighbour_entry, downward}
use Rattle.dictionary.specs.Views.{Dictionary, table_of}
use Rattle.lex_pivot.specs.Leads.{IsTop}
use Rattle.lex_pivot.proofs.EarlierLemmas.{within_row, within_ascending}
use Rattle.lex_pivot.proofs.FirstSigns.{IsZeroFrom, found_down, same_signs, greater, zero_sign}
use Rattle.lex_pivot.proofs.SignLemmas.{turned, over_zero, one_alone, other_alone}

sign_greater : (z : ℤ) → sign_of z ≡ Greater → pos 0 <ℤ z
sign_greater z e = by (sign_of z) (int_ranks z (pos 0)) e
  where
    by : (o : Ordering) → MatchOrdering o (z <ℤ pos 0) (z ≡ pos 0) (pos 0 <ℤ z) → o ≡ Greater → pos 0 <ℤ z
    by Less h q = absurd cc
    by Equal h q = absurd cc
    by Greater h q = h

sum_zero : (p a b f : ℤ) → a ≡ pos 0 → b ≡ pos 0 → p *ℤ a +ℤ b *ℤ f ≡ pos 0
sum_zero p a b f e g =
    let x : p *ℤ a ≡ pos 0 = ap (λ z. p *ℤ z) e ∙ mul_zero p in
    let y : b *ℤ f ≡ pos 0 = turned b f ∙ ap (λ z. f *ℤ z) g ∙ mul_zero f in
    omega (arith, lin)

-- what is said of the sum that the code reads
module _ (t : Table) (s r j k : ℕ) (p f : ℤ) (e : p ≡ neg_ℤ (t.entry r s)) (g : f ≡ t.entry r k) (h : k ≡ j)
    (P : (ℕ → ℤ) → Type 0) where
  pub sum_is : P (neighbour_entry t s r j) → P (λ q. p *ℤ t.entry q k +ℤ t.entry q s *ℤ f)
  sum_is x =
      subst (λ z. P (λ q. z *ℤ t.entry q k +ℤ t.entry q s *ℤ f)) (sym e)
      (subst (λ z. P (λ q. neg_ℤ (t.entry r s) *ℤ t.entry q k +ℤ t.entry q s *ℤ z)) (sym g)
      (subst (λ i. P (neighbour_entry t s r i)) (sym h) x))

  pub sum_was : P (λ q. p *ℤ t.entry q k +ℤ t.entry q s *ℤ f) → P (neighbour_entry t s r j)
  sum_was x =
      subst (λ i. P (neighbour_entry t s r i)) h
      (subst (λ z. P (λ q. neg_ℤ (t.entry r s) *ℤ t.entry q k +ℤ t.entry q s *ℤ z)) g
      (subst (λ z. P (λ q. z *ℤ t.entry q k +ℤ t.entry q s *ℤ f)) e x))

-- where the row that leaves is 0 in a column, its lead stays
pub stays : (t : Table) (s r j : ℕ) (qs : List ℕ) → t.entry r s <ℤ pos 0 → t.entry r j ≡ pos 0 →
    lex_sign_of (map (λ q. t.entry q j) qs) ≡ lex_sign_of (map (neighbour_entry t s r j) qs)
stays t s r j qs n z =
    same_signs (λ q. t.entry q j) (neighbour_entry t s r j)
    (λ q. over_zero (t.entry q j) (t.entry q s) (neg_ℤ (t.entry r s)) (t.entry r j) (omega (arith, lin)) z) qs

module _ (d : Dictionary) (root : List ℕ) (up : IsAscending d.labels) (root_up : IsAscending root) where
  abbrev part : List ℕ
  part = within d.labels root

  -- the row before a place behind which all is 0 decides, if it is not 0
  lead_at : (f : ℕ → ℤ) (top : ℕ) → 0 < top → top ≤ length root → IsZeroFrom f root part top →
      Contains part (get_or root (top - 1) 0) → f (get_or root (top - 1) 0) ≢ pos 0 →
      sign_of (f (get_or root (top - 1) 0)) ≡ lex_sign_of (map f (downward d.labels root))
  lead_at f top some l h c n =
      found_down f root part root_up (within_ascending d.labels root up) (λ k m. (within_row d.labels root k m).1) (top - 1)
      (get_or root (top - 1) 0) (omega arith)
      (sym (get_or_default root (top - 1) (get_or root (top - 1) 0) 0 (omega arith)))
      (sign_of (f (get_or root (top - 1) 0))) top (omega arith) h
      (λ e. n (zero_sign (f (get_or root (top - 1) 0)) e)) c refl

  module _ (s r j own theirs : ℕ) (negative : Table.entry (table_of d) r s <ℤ pos 0)
      (ours : IsTop d root (λ q. Table.entry (table_of d) q s) own)
      (other : IsTop d root (λ q. Table.entry (table_of d) q j) theirs) where
    abbrev after : ℕ → ℤ
    after q = neighbour_entry (table_of d) s r j q

    abbrev entry : ℕ → ℕ → ℤ
    entry q k = Table.entry (table_of d) q k

    -- behind both leads it is 0
    pub zero_after : (n : ℕ) → own ≤ n → theirs ≤ n → IsZeroFrom after root part n
    zero_after n a b k l m c =
        sum_zero (neg_ℤ (entry r s)) (entry (get_or root k 0) j) (entry (get_or root k 0) s) (entry r j)
        (other.behind.zero k (omega arith) m c) (ours.behind.zero k (omega arith) m c)

    -- so it does where it is at a greater row
    pub theirs_decides : own < theirs →
        lex_sign_of (map (λ q. entry q j) (downward d.labels root)) ≡ lex_sign_of (map after (downward d.labels root))
    theirs_decides l =
        let q = get_or root (theirs - 1) 0 in
        let c = other.row (omega arith) in
        let n = other.nonzero (omega arith) in
        let b = ours.behind.zero (theirs - 1) (omega arith) (let i = other.behind.inside in omega (arith, i, l)) c in
        let e = one_alone (entry q j) (entry q s) (neg_ℤ (entry r s)) (entry r j) (omega (arith, lin)) b in
        sym (lead_at (λ q. entry q j) theirs (omega arith) other.behind.inside other.behind.zero c n)
        ∙ e
        ∙ lead_at after theirs (omega arith) other.behind.inside (zero_after theirs (omega arith) (omega arith)) c
        (λ z. n (zero_sign (entry q j) (e ∙ zero_is_equal (after q) z)))
      where
        zero_is_equal : (z : ℤ) → z ≡ pos 0 → sign_of z ≡ Equal
        zero_is_equal z e = ap sign_of e

    -- where the lead of the entering column is at a greater row, and is positive, the entry of the row that leaves decides
    pub ours_decides : theirs < own → LeadsUp d.labels root (table_of d) s → entry r j ≢ pos 0 →
        sign_of (entry r j) ≡ lex_sign_of (map after (downward d.labels root))
    ours_decides l lead f =
        let q = get_or root (own - 1) 0 in
        let c = ours.row (omega arith) in
        let a = other.behind.zero (own - 1) (omega arith) (let i = ours.behind.inside in omega (arith, i, l)) c in
        let b = sign_greater (entry q s)
        (lead_at (λ q. entry q s) own (omega arith) ours.behind.inside ours.behind.zero c (ours.nonzero (omega arith))
        ∙ (greater (map (λ q. entry q s) (downward d.labels root))).1 lead) in
        let e = other_alone (entry q j) (entry q s) (neg_ℤ (entry r s)) (entry r j) b a in
        e ∙ lead_at after own (omega arith) ours.behind.inside (zero_after own (omega arith) (omega arith)) c
        (λ z. f (zero_sign (entry r j) (e ∙ ap sign_of z)))
