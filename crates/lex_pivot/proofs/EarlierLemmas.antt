-- Rows of a dictionary by tests of their labels, and which of two is earlier.
use Rattle.std.proofs.Common.{◌≡◌, ◌≢◌, ◌≤◌, Ordering, length, get_or, ◌⊎◌, ◌↔◌, inl, inr, ⊎_elim, ℕ, ◌<◌, Bool, true, false, cond, not, true≢false, List, [], refl, sym, subst, ap, ◌∙◌, arith}
use Rattle.std.specs.Prelude.{nat_lt}
use Rattle.std.specs.Bool.{IsTrue}
use Rattle.std.specs.List.{Contains}
use Rattle.std.proofs.lemmas.Bool.{ltb-true, lt-ltb}
use Rattle.std.proofs.lemmas.List.{get_or_default}
use Rattle.poly_model.specs.Keys.{IsAscending}
use Rattle.poly_model.specs.Labels.{is_row}
use Rattle.poly_model.specs.Spaces.{Space, is_member}
use Rattle.poly_model.specs.LexOrder.{rows_in, outside, within, IsEarlier}
use Rattle.poly_model.specs.Tree.{IsRowOutside}
use Rattle.linear_laws.specs.Distinct.{AreDistinct}
use Rattle.linear_laws.proofs.Members.{less_or_equal, both_true}
use Rattle.dictionary_laws.specs.Keys.{place_in}
use Rattle.dictionary_laws.proofs.Filters.{filter_only, filter_kept, ascending_filter, member_has, member_only}
use Rattle.dictionary_laws.proofs.KeyExchange.{ascending_distinct}
use Rattle.dictionary.proofs.PlaceLemmas.{place_within, at_place}
use Rattle.tree_laws.proofs.OrderLemmas.{outside_has, within_has, outside_is_earlier, smaller_outside, smaller_within, not_earlier_and_later, not_earlier_itself, outside_ascending as outside_rows_ascend, within_ascending as within_rows_ascend}
use Rattle.lex_pivot.specs.Earlier.{is_before_root, is_earlier}

-- a space with these labels: laws of rows speak of spaces
abbrev pub space_of : List ℕ → Space
space_of labels = record { n = 0; fixed = []; infinity = []; labels = labels; form = λ k. [] }

module _ (labels : List ℕ) where
  pub row_has : (k : ℕ) → Contains labels k → is_row k ≡ true → Contains (rows_in labels) k
  row_has k c e = filter_kept is_row labels k c e

  pub row_only : (k : ℕ) → Contains (rows_in labels) k → Contains labels k × (is_row k ≡ true)
  row_only k c = filter_only is_row labels k c

  -- a row outside the key
  pub outside_by_test : (key : List ℕ) (k : ℕ) (b : Bool) → Contains labels k → is_row k ≡ true →
      IsTrue b ↔ Contains key k → IsTrue (not b) ↔ IsRowOutside labels key k
  outside_by_test key k true c e h =
      ((λ t. absurd (true≢false (sym t))), (λ o. absurd (o.outside (h.0 refl))))
  outside_by_test key k false c e h =
      ((λ t. record { row = row_has k c e; outside = λ m. true≢false (sym (h.1 m)) }), (λ o. refl))

  module _ (root : List ℕ) where
    pub before_has : (k : ℕ) → Contains labels k → is_before_root root k ≡ true → Contains (outside labels root) k
    before_has k c e =
        let b = both_true (is_row k) (not (is_member k root)) e in
        filter_kept (λ k. not (is_member k root)) (rows_in labels) k (row_has k c b.0) b.1

    pub before_only : (k : ℕ) → Contains (outside labels root) k → Contains labels k × (is_before_root root k ≡ true)
    before_only k c =
        let f = filter_only (λ k. not (is_member k root)) (rows_in labels) k c in
        let r = row_only k f.0 in
        (r.0, ap (λ b. cond b (not (is_member k root)) false) r.1 ∙ f.1)

    -- so it is one of a list that is equal to the labels
    pub outside_in : (equal : List ℕ) → equal ≡ labels → (k : ℕ) → Contains (outside labels root) k → Contains equal k
    outside_in equal e k c = subst (λ (ks : List ℕ). Contains ks k) (sym e) (before_only k c).0

    pub within_row : (k : ℕ) → Contains (within labels root) k → Contains (rows_in labels) k × Contains root k
    within_row k c =
        let f = filter_only (λ k. is_member k root) (rows_in labels) k c in (f.0, member_only k root f.1)

    pub within_member : (k : ℕ) → Contains (rows_in labels) k → Contains root k → Contains (within labels root) k
    within_member k c m = filter_kept (λ k. is_member k root) (rows_in labels) k c (member_has k root m)

    module _ (up : IsAscending labels) where
      pub rows_ascend : IsAscending (rows_in labels)
      rows_ascend = ascending_filter is_row labels up

      pub rows_distinct : AreDistinct (rows_in labels)
      rows_distinct = ascending_distinct (rows_in labels) rows_ascend

      pub outside_ascending : IsAscending (outside labels root)
      outside_ascending = outside_rows_ascend (space_of labels) root rows_ascend

      pub within_ascending : IsAscending (within labels root)
      within_ascending = within_rows_ascend (space_of labels) root rows_ascend

      module _ (k i : ℕ) (a : Contains (rows_in labels) k) (b : Contains (rows_in labels) i) where
        outer : (j : ℕ) → Contains (rows_in labels) j → is_member j root ≡ false → Contains (outside labels root) j
        outer j c e = outside_has (space_of labels) root j c (λ m. true≢false (sym (member_has j root m) ∙ e))

        inner : (j : ℕ) → Contains (rows_in labels) j → is_member j root ≡ true → Contains (within labels root) j
        inner j c e = within_has (space_of labels) root j c (member_only j root e)

        not_less : nat_lt k i ≡ false → (i < k → IsEarlier labels root i k) → IsEarlier labels root k i → ⊥
        not_less g back x =
            ⊎_elim
            (λ (l : k < i). true≢false (sym (lt-ltb k i l) ∙ g))
            (λ (r : (i < k) ⊎ (k ≡ i)). ⊎_elim
            (λ (l : i < k). not_earlier_and_later (space_of labels) root rows_distinct k i x (back l))
            (λ (q : k ≡ i). not_earlier_itself (space_of labels) root rows_distinct k
            (subst (λ j. IsEarlier labels root k j) (sym q) x)) r)
            (less_or_equal k i)

        -- the test says so, or k is not earlier
        decided : (x y z : Bool) → is_member k root ≡ x → is_member i root ≡ y → nat_lt k i ≡ z →
            ((cond x (cond y z false) (cond y true z) ≡ true) × IsEarlier labels root k i)
            ⊎ ((cond x (cond y z false) (cond y true z) ≡ false) × (IsEarlier labels root k i → ⊥))
        decided true true true e f g =
            inl (
              refl,
              smaller_within (space_of labels) root rows_ascend k i (inner k a e) (inner i b f) (ltb-true k i g),
            )
        decided true true false e f g =
            inr (
              refl,
              not_less g (smaller_within (space_of labels) root rows_ascend i k (inner i b f) (inner k a e)),
            )
        decided true false z e f g =
            inr (
              refl,
              λ x. not_earlier_and_later (space_of labels) root rows_distinct k i x
                  (outside_is_earlier (space_of labels) root i k (outer i b f) (inner k a e)),
            )
        decided false true z e f g =
            inl (refl, outside_is_earlier (space_of labels) root k i (outer k a e) (inner i b f))
        decided false false true e f g =
            inl (
              refl,
              smaller_outside (space_of labels) root rows_ascend k i (outer k a e) (outer i b f) (ltb-true k i g),
            )
        decided false false false e f g =
            inr (
              refl,
              not_less g (smaller_outside (space_of labels) root rows_ascend i k (outer i b f) (outer k a e)),
            )

        pub earlier_by_test : (is_earlier root k i ≡ true) ↔ IsEarlier labels root k i
        earlier_by_test = by (decided (is_member k root) (is_member i root) (nat_lt k i) refl refl refl)
          where
            by : ((is_earlier root k i ≡ true) × IsEarlier labels root k i)
                ⊎ ((is_earlier root k i ≡ false) × (IsEarlier labels root k i → ⊥)) →
                (is_earlier root k i ≡ true) ↔ IsEarlier labels root k i
            by (inl p) = ((λ e. p.1), (λ x. p.0))
            by (inr p) = ((λ e. absurd (true≢false (sym e ∙ p.0))), (λ x. absurd (p.1 x)))

-- what holds at each place of a list holds of its members
pub at_each : (P : ℕ → Type 0) (ks : List ℕ) (n : ℕ) → length ks ≤ n → ((j : ℕ) → j < n → P (get_or ks j 0)) → (k : ℕ) →
    Contains ks k → P k
at_each P ks n l h k c = let w = place_within ks k c in subst P (at_place ks k 0 c) (h (place_in ks k) (omega arith))

-- a test of an order answers for what it means
pub by_answer : (P : Type 0) (b : Bool) (o want : Ordering) → (b ≡ true → o ≡ want) → (b ≡ false → o ≢ want) →
    (o ≡ want) ↔ P → IsTrue b ↔ P
by_answer P true o want y n h = ((λ t. h.0 (y refl)), (λ p. refl))
by_answer P false o want y n h = ((λ t. absurd (true≢false (sym t))), (λ p. absurd (n refl (h.1 p))))

-- what is read at a place of a list that is equal
pub read_at : (read rows : List ℕ) → read ≡ rows → (n q : ℕ) → n < length rows → q ≡ get_or read n q → q ≡ get_or rows n 0
read_at read rows e n q l i =
    subst (λ (ks : List ℕ). q ≡ get_or ks n 0) e
    (i ∙ get_or_default read n q 0 (subst (λ (ks : List ℕ). n < length ks) (sym e) l))
