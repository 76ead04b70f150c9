-- The column that enters, and when there is no parent.
use Rattle.std.proofs.Common.{◌≡◌, ◌⊎◌, inl, inr, ⊎_elim, ℕ, ◌<◌, ◌≤◌, pos, neg_ℤ, ◌<ℤ◌, Bool, true, false, true≢false, List, length, get_or, refl, sym, subst, ◌∙◌, arith, Some, None}
use Rattle.std.specs.List.{All, Contains}
use Rattle.std.proofs.lemmas.List.Elements.{Contains-get_or, All-contains}
use Rattle.poly_num.proofs.Ring.{lin}
use Rattle.poly_model.specs.Keys.{IsAscending}
use Rattle.poly_model.specs.Spaces.{is_member}
use Rattle.poly_model.specs.Dictionaries.{Table}
use Rattle.poly_model.specs.LexOrder.{rows_in, outside, within, backwards, IsEarlier}
use Rattle.poly_model.specs.Tree.{MayEnter, Enters, Leaves, IsParent, exchanged_key}
use Rattle.linear_laws.proofs.Signs.{minus_negative}
use Rattle.dictionary_laws.specs.Keys.{place_in}
use Rattle.dictionary_laws.proofs.Filters.{member_has, member_only}
use Rattle.dictionary_laws.proofs.Members.{contains_or, ascending_places}
use Rattle.std.proofs.lemmas.Bool.{cases_eq}
use Rattle.tree_laws.specs.Parents.{IsRootOrChild}
use Rattle.tree_laws.proofs.LexLemmas.{positive_value}
use Rattle.tree_laws.proofs.OrderLemmas.{outside_has, within_has, outside_is_earlier, smaller_outside, smaller_within, backwards_within_only}
use Rattle.tree_laws.proofs.Parents.{root_or_child}
use Rattle.dictionary.specs.Cobases.{HasUnits}
use Rattle.dictionary.specs.Views.{Dictionary, table_of}
use Rattle.dictionary.proofs.PlaceLemmas.{place_within, at_place}
use Rattle.lex_pivot.specs.Ratios.{NoneLeaves}
use Rattle.lex_pivot.specs.Above.{IsOfRows, NoneEnters, EntersAt, LeadsToParent, IsRootExactly, EntersOn, IsLeastOn, NoneOn}
use Rattle.lex_pivot.specs.declared.parents.Pivot.{Pivot}
use Rattle.lex_pivot.proofs.EarlierLemmas.{space_of, rows_ascend}

-- ---- the first of the key
module _ (d : Dictionary) (root : List ℕ) (inside : Bool) where
  pub least_on : (n k : ℕ) → IsAscending d.key → n < length d.key → k ≡ get_or d.key n 0 →
      ((j : ℕ) → j < n → EntersOn d root inside (get_or d.key j 0) → ⊥) → EntersOn d root inside k →
      IsLeastOn d root inside k
  least_on n k asc l e h x = record {
    column = subst (λ q. Contains d.key q) (sym e) (Contains-get_or d.key n 0 l);
    enters = x;
    least = λ q c y. by q c y (before_or (place_in d.key q) n);
  }
    where
      before_or : (p n : ℕ) → (p < n) ⊎ (n ≤ p)
      before_or p n = grind arith

      by : (q : ℕ) → Contains d.key q → EntersOn d root inside q → (place_in d.key q < n) ⊎ (n ≤ place_in d.key q) → k ≤ q
      by q c y (inl a) =
          absurd (h (place_in d.key q) a (subst (λ i. EntersOn d root inside i) (sym (at_place d.key q 0 c)) y))
      by q c y (inr a) =
          let g = ascending_places d.key asc n (place_in d.key q) a (place_within d.key q c) in
          let p = at_place d.key q 0 c in
          omega arith

-- ---- the least in the order relative to the root
module _ (d : Dictionary) (root : List ℕ) (up : IsAscending d.labels) where
  module _ (h : IsOfRows d) where
    row : (k : ℕ) → Contains d.key k → Contains (rows_in d.labels) k
    row k c = All-contains (Contains (rows_in d.labels)) d.key k h c

    outer : (k : ℕ) → Contains d.key k → is_member k root ≡ false → Contains (outside d.labels root) k
    outer k c e = outside_has (space_of d.labels) root k (row k c) (λ m. true≢false (sym (member_has k root m) ∙ e))

    inner : (k : ℕ) → Contains d.key k → is_member k root ≡ true → Contains (within d.labels root) k
    inner k c e = within_has (space_of d.labels) root k (row k c) (member_only k root e)

    equal_or_less : (s k : ℕ) → s ≤ k → (k ≡ s) ⊎ (s < k)
    equal_or_less s k l = grind arith

    enters_first : (s : ℕ) → IsLeastOn d root false s → Enters d.labels root d.key (table_of d) s
    enters_first s x = record {
      column = x.column;
      may = x.enters.may;
      least = λ k c m. by k c m (is_member k root) refl;
    }
      where
        here : Contains (outside d.labels root) s
        here = outer s x.column x.enters.side

        by : (k : ℕ) → Contains d.key k → MayEnter d.labels root (table_of d) k → (b : Bool) → is_member k root ≡ b →
            (k ≡ s) ⊎ IsEarlier d.labels root s k
        by k c m true e = inr (outside_is_earlier (space_of d.labels) root s k here (inner k c e))
        by k c m false e =
            ⊎_elim (λ (q : k ≡ s). inl q)
            (λ (l : s < k). inr (smaller_outside (space_of d.labels) root (rows_ascend d.labels root up) s k here
            (outer k c e) l))
            (equal_or_less s k (x.least k c (record { side = e; may = m })))

    enters_last : NoneOn d root false → (s : ℕ) → IsLeastOn d root true s → Enters d.labels root d.key (table_of d) s
    enters_last none s x = record {
      column = x.column;
      may = x.enters.may;
      least = λ k c m. by k c m (is_member k root) refl;
    }
      where
        by : (k : ℕ) → Contains d.key k → MayEnter d.labels root (table_of d) k → (b : Bool) → is_member k root ≡ b →
            (k ≡ s) ⊎ IsEarlier d.labels root s k
        by k c m false e = absurd (none k c (record { side = e; may = m }))
        by k c m true e =
            ⊎_elim (λ (q : k ≡ s). inl q)
            (λ (l : s < k). inr (smaller_within (space_of d.labels) root (rows_ascend d.labels root up) s k
            (inner s x.column x.enters.side) (inner k c e) l))
            (equal_or_less s k (x.least k c (record { side = e; may = m })))

  pub enters_outside : (s : ℕ) → IsLeastOn d root false s → EntersAt d root s
  enters_outside s x = record { may = x.enters.may; enters = λ h. enters_first h s x }

  pub enters_inside : NoneOn d root false → (s : ℕ) → IsLeastOn d root true s → EntersAt d root s
  enters_inside none s x = record { may = x.enters.may; enters = λ h. enters_last h none s x }

module _ (d : Dictionary) (root : List ℕ) where
  pub none_enters : NoneOn d root false → NoneOn d root true → NoneEnters d root
  none_enters a b k c m = by (is_member k root) refl
    where
      by : (s : Bool) → is_member k root ≡ s → ⊥
      by true e = b k c (record { side = e; may = m })
      by false e = a k c (record { side = e; may = m })

  -- in a column that may enter a row of the root is negative, and no label of the cobasis is
  pub some_row_leaves : HasUnits d → pos 0 <ℤ d.denominator → (s : ℕ) → Contains d.key s →
      MayEnter d.labels root (table_of d) s → NoneLeaves d s → ⊥
  some_row_leaves units positive s c m none =
      let w = positive_value (λ q. neg_ℤ (Table.entry (table_of d) q s)) (backwards (within d.labels root)) m in
      let l = minus_negative (Table.entry (table_of d) w.0 s) w.2 in
      ⊎_elim
      (λ (i : Contains d.key w.0). ⊎_elim
      (λ (e : w.0 ≡ s). let o = subst (λ q. Table.entry (table_of d) q s ≡ d.denominator) (sym e) (units.own s c) in
      omega (arith, lin))
      (λ (n : w.0 ≡ s → ⊥). let o = units.other w.0 s i c n in omega (arith, lin))
      (cases_eq w.0 s))
      (λ (n : Contains d.key w.0 → ⊥).
      let z = none w.0 (record { row = (backwards_within_only (space_of d.labels) root w.0 w.1).0; outside = n }) in
      omega (arith, lin))
      (contains_or d.key w.0)

  -- ---- at lexicographically feasible cobases
  pub none_at_root : NoneEnters d root → IsRootExactly d root None
  none_at_root none space home e f l = ((λ t. by (root_or_child space root d.key home (table_of d) f l)), (λ q. refl))
    where
      by : IsRootOrChild space root d.key (table_of d) → d.key ≡ root
      by (inl p) = p.0
      by (inr p) =
          absurd (none p.2.s p.2.enters.column
          (subst (λ ls. MayEnter ls root (table_of d) p.2.s) (sym e) p.2.enters.may))

  pub some_below_root : (p : Pivot) → LeadsToParent d root p.col p.row → IsRootExactly d root (Some p)
  some_below_root v x space home e f l = (
    (λ t. absurd (true≢false t)),
    (λ q. absurd (by q (root_or_child space root d.key home (table_of d) f l))),
  )
    where
      parent : IsParent space.labels root d.key (table_of d) (exchanged_key d.key v.col v.row)
      parent = record {
        s = v.col;
        enters = subst (λ ls. Enters ls root d.key (table_of d) v.col) e
            (x.enters.enters (subst (λ ls. All (Contains (rows_in ls)) d.key) (sym e) l.dictionary.rows));
        neighbour = record {
          column = x.column;
          r = v.row;
          leaves = subst (λ ls. Leaves ls root d.key (table_of d) v.col v.row) e x.leaves;
          exchange = refl;
        };
      }

      by : d.key ≡ root → IsRootOrChild space root d.key (table_of d) → ⊥
      by q (inl p) = p.1 (exchanged_key d.key v.col v.row) parent
      by q (inr p) = p.0 q
