-- Where the lists of two rows differ: at a label of the cobasis, or at the first of the two that is outside the root.
use Rattle.std.proofs.Common.{◌≡◌, ◌≢◌, ◌⊎◌, ⊎_elim, ℕ, ◌+◌, ◌<◌, ◌≤◌, ℤ, pos, neg_ℤ, ◌-ℤ◌, ◌*ℤ◌, ◌<ℤ◌, true, cond, true≢false, List, map, length, get_or, sym, ap, subst, ◌∙◌, arith, Ordering, Option, Some, None}
use Rattle.std.specs.List.{Contains}
use Rattle.std.specs.Ordering.{int_cmp}
use Rattle.std.specs.Cmp.{int_cmp_is}
use Rattle.std.proofs.lemmas.List.Elements.{Contains-get_or}
use Rattle.std.specs.declared.cmp.Ordering.TheVariants.{Less, Equal, Greater}
use Rattle.std.proofs.lemmas.Bool.{ne_eqb, eq-eqb}
use Rattle.poly_num.proofs.Ring.{lin, mul_zero}
use Rattle.poly_num.proofs.Order.{positive_product, positive_nonzero}
use Rattle.poly_num.specs.Signs.{sign_of, lex_sign_of}
use Rattle.poly_model.specs.Keys.{IsAscending}
use Rattle.poly_model.specs.Dictionaries.{Table}
use Rattle.poly_model.specs.LexOrder.{gaps, outside, listed_at}
use Rattle.poly_model.specs.Spaces.{is_member}
use Rattle.dictionary_laws.specs.Keys.{place_in}
use Rattle.dictionary_laws.proofs.Members.{contains_or, ascending_places}
use Rattle.dictionary_laws.proofs.Filters.{filter_kept, filter_only, ascending_filter}
use Rattle.dictionary.specs.Views.{Dictionary, table_of}
use Rattle.dictionary.proofs.PlaceLemmas.{place_within, at_place}
use Rattle.tree_laws.proofs.ListSums.{gaps_of_maps}
use Rattle.lex_pivot.specs.Earlier.{is_before_root}
use Rattle.lex_pivot.specs.BeforeRoot.{before_root}
use Rattle.lex_pivot.specs.Pairs.{ArePair, pair_gaps, constant_gap, gap_at, IsEnd, IsEndAt, IsPastEnd, end_sign}
use Rattle.lex_pivot.specs.declared.candidates.Pair.{Pair}
use Rattle.lex_pivot.proofs.EarlierLemmas.{before_has, before_only, row_only, outside_ascending}
use Rattle.lex_pivot.proofs.SignLemmas.{turned_sign, listed_elsewhere, listed_inside}
use Rattle.lex_pivot.proofs.FirstSigns.{IsZeroBelow, zero_first, ascending_sign, no_sign, sign_zero}

positive_gap : (p q x y : ℤ) → pos 0 <ℤ p → pos 0 <ℤ x → y ≡ pos 0 → pos 0 <ℤ (p *ℤ x -ℤ q *ℤ y)
positive_gap p q x y h l e =
    let a = positive_product p x h l in let b : q *ℤ y ≡ pos 0 = ap (λ z. q *ℤ z) e ∙ mul_zero q in omega (arith, lin)

negative_gap : (p q x y : ℤ) → pos 0 <ℤ q → pos 0 <ℤ y → x ≡ pos 0 → (p *ℤ x -ℤ q *ℤ y) <ℤ pos 0
negative_gap p q x y h l e =
    let a = positive_product q y h l in let b : p *ℤ x ≡ pos 0 = ap (λ z. p *ℤ z) e ∙ mul_zero p in omega (arith, lin)

no_gap : (p q x y : ℤ) → x ≡ pos 0 → y ≡ pos 0 → p *ℤ x -ℤ q *ℤ y ≡ pos 0
no_gap p q x y e f =
    let a : p *ℤ x ≡ pos 0 = ap (λ z. p *ℤ z) e ∙ mul_zero p in
    let b : q *ℤ y ≡ pos 0 = ap (λ z. q *ℤ z) f ∙ mul_zero q in
    omega (arith, lin)

own_number : (key : List ℕ) (t : Table) (i k : ℕ) → k ≡ i → listed_at key t i k ≡ t.denominator
own_number key t i k e =
    ap (λ b. cond b t.denominator (cond (is_member k key) (neg_ℤ (t.entry i k)) (pos 0))) (eq-eqb k i e)

-- the numbers at a label of the cobasis, as the code compares them: the lists have minus the entries x and y
pub gap_inside : (key : List ℕ) (t : Table) (pair : Pair ℤ) (k : ℕ) (x y : ℤ) (o : Ordering) → Contains key k →
    k ≢ pair.one.row → k ≢ pair.other.row → x ≡ t.entry pair.one.row k → y ≡ t.entry pair.other.row k →
    o ≡ int_cmp (y *ℤ pair.one.over) (x *ℤ pair.other.over) → o ≡ sign_of (gap_at key t pair k)
gap_inside key t pair k x y o c m n e f g =
    g ∙ turned_sign pair.other.over pair.one.over x y
    ∙ ap (λ z. sign_of (pair.other.over *ℤ z -ℤ pair.one.over *ℤ neg_ℤ y))
    (ap neg_ℤ e ∙ sym (listed_inside key t pair.one.row k m c))
    ∙ ap (λ z. sign_of (pair.other.over *ℤ listed_at key t pair.one.row k -ℤ pair.one.over *ℤ z))
    (ap neg_ℤ f ∙ sym (listed_inside key t pair.other.row k n c))

-- where the constants are equal the rows outside the root decide, and else the constants
pub gaps_behind : (d : Dictionary) (root : List ℕ) (pair : Pair ℤ) → constant_gap (table_of d) pair ≡ pos 0 →
    lex_sign_of (map (gap_at d.key (table_of d) pair) (outside d.labels root)) ≡ lex_sign_of (pair_gaps d root pair)
gaps_behind d root pair z =
    ap lex_sign_of (sym (gaps_of_maps pair.other.over (listed_at d.key (table_of d) pair.one.row) pair.one.over
    (listed_at d.key (table_of d) pair.other.row) (outside d.labels root)))
    ∙ sym (zero_first (constant_gap (table_of d) pair) (gaps pair.other.over
    (map (listed_at d.key (table_of d) pair.one.row) (outside d.labels root)) pair.one.over
    (map (listed_at d.key (table_of d) pair.other.row) (outside d.labels root))) z)

-- a label at a place of those before the root is in the cobasis, and outside the root
pub before_at : (d : Dictionary) (root : List ℕ) → ((i : ℕ) → Contains d.key i → Contains d.labels i) → (n k : ℕ) →
    n < length (before_root d root) → k ≡ get_or (before_root d root) n 0 →
    Contains d.key k × Contains (outside d.labels root) k
before_at d root labels n k l e =
    let m = filter_only (is_before_root root) d.key k
    (subst (Contains (before_root d root)) (sym e) (Contains-get_or (before_root d root) n 0 l)) in
    (m.0, before_has d.labels root k (labels k m.0) m.1)

module _ (d : Dictionary) (root : List ℕ) (pair : Pair ℤ) (two : ArePair d pair) (differ : pair.one.row ≢ pair.other.row)
    (up : IsAscending d.labels) (key_up : IsAscending d.key) (positive : pos 0 <ℤ d.denominator) where
  elsewhere : (k : ℕ) → (Contains d.key k → ⊥) → k ≢ pair.one.row → k ≢ pair.other.row → gap_at d.key (table_of d) pair k ≡ pos 0
  elsewhere k n a b =
      no_gap pair.other.over pair.one.over (listed_at d.key (table_of d) pair.one.row k)
      (listed_at d.key (table_of d) pair.other.row k) (listed_elsewhere d.key (table_of d) pair.one.row k a n)
      (listed_elsewhere d.key (table_of d) pair.other.row k b n)

  -- the two rows are no labels of the cobasis
  not_row : (k : ℕ) → Contains d.key k → k ≢ pair.one.row
  not_row k c e = two.one.at.row.outside (subst (Contains d.key) e c)

  not_other : (k : ℕ) → Contains d.key k → k ≢ pair.other.row
  not_other k c e = two.other.at.row.outside (subst (Contains d.key) e c)

  ascends : IsAscending (before_root d root)
  ascends = ascending_filter (is_before_root root) d.key key_up

  module _ (n : ℕ) (h : IsZeroBelow (gap_at d.key (table_of d) pair) (before_root d root) (outside d.labels root) n) where
    below_or : (p n : ℕ) → (p < n) ⊎ (n ≤ p)
    below_or p n = grind arith

    -- below b, which is at most the next of these labels and the end, the lists do not differ
    zero_below : (b : ℕ) → (n < length (before_root d root) → b ≤ get_or (before_root d root) n 0) →
        ((k : ℕ) → Contains (outside d.labels root) k → k < b → (k ≢ pair.one.row) × (k ≢ pair.other.row)) →
        (k : ℕ) → Contains (outside d.labels root) k → k < b → gap_at d.key (table_of d) pair k ≡ pos 0
    zero_below b far other k c l =
        ⊎_elim
        (λ (m : Contains d.key k). inside (filter_kept (is_before_root root) d.key k m (before_only d.labels root k c).1))
        (λ (m : Contains d.key k → ⊥). elsewhere k m (other k c l).0 (other k c l).1)
        (contains_or d.key k)
      where
        passed : (p : ℕ) → get_or (before_root d root) p 0 ≡ k → p < length (before_root d root) → n ≤ p → ⊥
        passed p e w s =
            let f = far (omega arith) in let g = ascending_places (before_root d root) ascends n p s w in omega arith

        inside : Contains (before_root d root) k → gap_at d.key (table_of d) pair k ≡ pos 0
        inside m =
            let at = at_place (before_root d root) k 0 m in
            ⊎_elim
            (λ (s : place_in (before_root d root) k < n). subst (λ z. gap_at d.key (table_of d) pair z ≡ pos 0) at
            (h (place_in (before_root d root) k) s (subst (Contains (outside d.labels root)) (sym at) c)))
            (λ (s : n ≤ place_in (before_root d root) k).
            absurd (passed (place_in (before_root d root) k) at (place_within (before_root d root) k m) s))
            (below_or (place_in (before_root d root) k) n)

    -- at a label of the cobasis
    pub differs_here : (end : Option ℕ) (k : ℕ) (o : Ordering) → IsEnd root pair.one.row pair.other.row end →
        k ≡ get_or (before_root d root) n 0 →
        (IsPastEnd k end → ⊥) → Contains (outside d.labels root) k → o ≢ Equal →
        o ≡ sign_of (gap_at d.key (table_of d) pair k) →
        o ≡ lex_sign_of (map (gap_at d.key (table_of d) pair) (outside d.labels root))
    differs_here end k o is e b c m v =
        v ∙ sym (ascending_sign (gap_at d.key (table_of d) pair) (outside d.labels root)
        (outside_ascending d.labels root up) k c
        (zero_below k (λ l. omega arith) (λ j q l. by end is b j (before_only d.labels root j q).1 l))
        (λ z. m (v ∙ sign_zero (gap_at d.key (table_of d) pair k) z)))
      where
        by : (end : Option ℕ) → IsEnd root pair.one.row pair.other.row end → (IsPastEnd k end → ⊥) → (j : ℕ) → is_before_root root j ≡ true →
            j < k → (j ≢ pair.one.row) × (j ≢ pair.other.row)
        by (Some x) is b j t l = (
          (λ e. is.first (subst (λ z. is_before_root root z ≡ true) e t) (nearer x j pair.one.row l e b)),
          (λ e. is.second (subst (λ z. is_before_root root z ≡ true) e t) (nearer x j pair.other.row l e b)),
        )
          where
            nearer : (x j i : ℕ) → j < k → j ≡ i → (x < k → ⊥) → i < x
            nearer x j i l e b = grind arith
        by None is b j t l = (
          (λ e. true≢false (sym t ∙ ap (is_before_root root) e ∙ is.first)),
          (λ e. true≢false (sym t ∙ ap (is_before_root root) e ∙ is.second)),
        )

    -- at the end
    row_end : (x : ℕ) → x ≡ pair.one.row →
        (end_sign pair.one.row (Some x) ≡ sign_of (gap_at d.key (table_of d) pair x)) × (gap_at d.key (table_of d) pair x ≢ pos 0)
    row_end x e =
        let up : pos 0 <ℤ gap_at d.key (table_of d) pair x =
        positive_gap pair.other.over pair.one.over (listed_at d.key (table_of d) pair.one.row x)
        (listed_at d.key (table_of d) pair.other.row x) two.other.over
        (subst (λ z. pos 0 <ℤ z) (sym (own_number d.key (table_of d) pair.one.row x e)) positive)
        (listed_elsewhere d.key (table_of d) pair.other.row x (λ q. differ (sym e ∙ q))
        (λ m. two.one.at.row.outside (subst (Contains d.key) e m))) in (
          ap (λ b. cond b Greater Less) (eq-eqb x pair.one.row e)
              ∙ int_cmp_is (gap_at d.key (table_of d) pair x) (pos 0) Greater up,
          positive_nonzero (gap_at d.key (table_of d) pair x) up,
        )

    other_end : (x : ℕ) → x ≡ pair.other.row →
        (end_sign pair.one.row (Some x) ≡ sign_of (gap_at d.key (table_of d) pair x)) × (gap_at d.key (table_of d) pair x ≢ pos 0)
    other_end x e =
        let down : gap_at d.key (table_of d) pair x <ℤ pos 0 =
        negative_gap pair.other.over pair.one.over (listed_at d.key (table_of d) pair.one.row x)
        (listed_at d.key (table_of d) pair.other.row x) two.one.over
        (subst (λ z. pos 0 <ℤ z) (sym (own_number d.key (table_of d) pair.other.row x e)) positive)
        (listed_elsewhere d.key (table_of d) pair.one.row x (λ q. differ (sym q ∙ e))
        (λ m. two.other.at.row.outside (subst (Contains d.key) e m))) in (
          ap (λ b. cond b Greater Less) (ne_eqb x pair.one.row (λ q. differ (sym q ∙ e)))
              ∙ int_cmp_is (gap_at d.key (table_of d) pair x) (pos 0) Less down,
          λ z. not_negative (gap_at d.key (table_of d) pair x) down z,
        )
      where
        not_negative : (z : ℤ) → z <ℤ pos 0 → z ≢ pos 0
        not_negative z l e = omega (arith, lin)

    end_at : (x : ℕ) → IsEndAt root pair.one.row pair.other.row x → Contains (outside d.labels root) x
        × (end_sign pair.one.row (Some x) ≡ sign_of (gap_at d.key (table_of d) pair x)) × (gap_at d.key (table_of d) pair x ≢ pos 0)
    end_at x is =
        ⊎_elim
        (λ (e : x ≡ pair.one.row). let w = row_end x e in (
          before_has d.labels root x (subst (Contains d.labels) (sym e) (row_only d.labels pair.one.row two.one.at.row.row).0) is.before,
          w.0,
          w.1,
        ))
        (λ (e : x ≡ pair.other.row). let w = other_end x e in (
          before_has d.labels root x (subst (Contains d.labels) (sym e) (row_only d.labels pair.other.row two.other.at.row.row).0) is.before,
          w.0,
          w.1,
        ))
        is.row

    pub at_end : (end : Option ℕ) → IsEnd root pair.one.row pair.other.row end →
        (n < length (before_root d root) → IsPastEnd (get_or (before_root d root) n 0) end) →
        end_sign pair.one.row end ≡ lex_sign_of (map (gap_at d.key (table_of d) pair) (outside d.labels root))
    at_end (Some x) is far =
        let w = end_at x is in
        w.1 ∙ sym (ascending_sign (gap_at d.key (table_of d) pair) (outside d.labels root)
        (outside_ascending d.labels root up) x w.0
        (zero_below x (λ l. let f = far l in omega arith) (λ j q l. (
          (λ e. is.first (subst (λ z. is_before_root root z ≡ true) e (before_only d.labels root j q).1) (subst (λ z. z < x) e l)),
          (λ e. is.second (subst (λ z. is_before_root root z ≡ true) e (before_only d.labels root j q).1) (subst (λ z. z < x) e l)),
        )))
        w.2)
    at_end None is far =
        sym (no_sign (gap_at d.key (table_of d) pair) (outside d.labels root)
        (λ k c. zero_below (k + 1) (λ l. absurd (far l)) (λ j q l. (
          (λ e. true≢false (sym (before_only d.labels root j q).1 ∙ ap (is_before_root root) e ∙ is.first)),
          (λ e. true≢false (sym (before_only d.labels root j q).1 ∙ ap (is_before_root root) e ∙ is.second)),
        )) k c (omega arith)))
