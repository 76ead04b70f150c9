-- The rows of a space in their order relative to a root: members, which of two is earlier; the column that enters.
use Rattle.std.proofs.Common.{◌≡◌, ◌≢◌, ◌⊎◌, ⊎_elim, ℕ, ◌<◌, true, not, List, sym, ap, ◌∙◌}
use Rattle.std.specs.List.{Contains}
use Rattle.std.proofs.lemmas.Bool.{not_from_false, false_from_ne_true, true≢false}
use Rattle.std.proofs.lemmas.List.Elements.{Contains-append_left, Contains-append_right, Contains-append_cases}
use Rattle.poly_model.specs.Keys.{IsAscending}
use Rattle.poly_model.specs.Spaces.{Space, is_member}
use Rattle.poly_model.specs.Labels.{is_row}
use Rattle.poly_model.specs.LexOrder.{rows_in, outside, within, order, backwards, Precedes, IsEarlier}
use Rattle.poly_model.specs.Tree.{IsRowOutside}
use Rattle.linear_laws.specs.Distinct.{AreDistinct}
use Rattle.linear_laws.proofs.Distinct.{distinct_append}
use Rattle.dictionary_laws.proofs.Members.{contains_or}
use Rattle.dictionary_laws.proofs.Filters.{filter_only, filter_kept, distinct_filter, member_only, member_has, ascending_filter}
use Rattle.tree_laws.proofs.ListOrder.{precedes_members, one_before_other, not_before_and_behind, not_before_itself, before_is_other, before_transitive, before_across, before_in_front, before_behind, before_cases, smaller_is_before, before_is_smaller, backwards_has, backwards_only}
use Rattle.tree_laws.proofs.FirstMembers.{IsFirst, IsLast, first_with, last_with}

pub no_member : (k : ℕ) (ks : List ℕ) → not (is_member k ks) ≡ true → Contains ks k → ⊥
no_member k ks h c = true≢false (sym h ∙ ap not (member_has k ks c))

pub not_member : (k : ℕ) (ks : List ℕ) → (Contains ks k → ⊥) → not (is_member k ks) ≡ true
not_member k ks n = not_from_false (is_member k ks) (false_from_ne_true (is_member k ks) (λ e. n (member_only k ks e)))

module _ (space : Space) where
  pub row_has : (k : ℕ) → Contains space.labels k → is_row k ≡ true → Contains (rows_in space.labels) k
  row_has k c e = filter_kept is_row space.labels k c e

  pub row_only : (k : ℕ) → Contains (rows_in space.labels) k → Contains space.labels k × (is_row k ≡ true)
  row_only k c = filter_only is_row space.labels k c

  pub rows_distinct : AreDistinct space.labels → AreDistinct (rows_in space.labels)
  rows_distinct d = distinct_filter is_row space.labels d

  pub rows_ascending : IsAscending space.labels → IsAscending (rows_in space.labels)
  rows_ascending a = ascending_filter is_row space.labels a

  module _ (root : List ℕ) where
    -- ---- members
    pub outside_has : (k : ℕ) → Contains (rows_in space.labels) k → (Contains root k → ⊥) →
        Contains (outside space.labels root) k
    outside_has k c n = filter_kept (λ k. not (is_member k root)) (rows_in space.labels) k c (not_member k root n)

    pub outside_only : (k : ℕ) → Contains (outside space.labels root) k →
        Contains (rows_in space.labels) k × (Contains root k → ⊥)
    outside_only k c =
        let h = filter_only (λ k. not (is_member k root)) (rows_in space.labels) k c in (h.0, no_member k root h.1)

    pub within_has : (k : ℕ) → Contains (rows_in space.labels) k → Contains root k →
        Contains (within space.labels root) k
    within_has k c m = filter_kept (λ k. is_member k root) (rows_in space.labels) k c (member_has k root m)

    pub within_only : (k : ℕ) → Contains (within space.labels root) k →
        Contains (rows_in space.labels) k × Contains root k
    within_only k c =
        let h = filter_only (λ k. is_member k root) (rows_in space.labels) k c in (h.0, member_only k root h.1)

    pub order_has : (k : ℕ) → Contains (rows_in space.labels) k → Contains (order space.labels root) k
    order_has k c =
        ⊎_elim
        (λ (m : Contains root k). Contains-append_right (outside space.labels root) (within space.labels root) k
        (within_has k c m))
        (λ (n : Contains root k → ⊥).
        Contains-append_left (outside space.labels root) (within space.labels root) k (outside_has k c n))
        (contains_or root k)

    pub order_only : (k : ℕ) → Contains (order space.labels root) k → Contains (rows_in space.labels) k
    order_only k c =
        ⊎_elim (λ (d : Contains (outside space.labels root) k). (outside_only k d).0)
        (λ (d : Contains (within space.labels root) k). (within_only k d).0)
        (Contains-append_cases (outside space.labels root) (within space.labels root) k c)

    pub row_outside : (k : ℕ) → IsRowOutside space.labels root k → Contains (outside space.labels root) k
    row_outside k h = outside_has k h.row h.outside

    pub is_row_outside : (k : ℕ) → Contains (outside space.labels root) k → IsRowOutside space.labels root k
    is_row_outside k c = let h = outside_only k c in record { row = h.0; outside = h.1 }

    pub backwards_within_has : (k : ℕ) → Contains (rows_in space.labels) k → Contains root k →
        Contains (backwards (within space.labels root)) k
    backwards_within_has k c m = backwards_has (within space.labels root) k (within_has k c m)

    pub backwards_within_only : (k : ℕ) → Contains (backwards (within space.labels root)) k →
        Contains (rows_in space.labels) k × Contains root k
    backwards_within_only k c = within_only k (backwards_only (within space.labels root) k c)

    -- ---- each stands once
    module _ (distinct : AreDistinct (rows_in space.labels)) where
      pub outside_distinct : AreDistinct (outside space.labels root)
      outside_distinct = distinct_filter (λ k. not (is_member k root)) (rows_in space.labels) distinct

      pub within_distinct : AreDistinct (within space.labels root)
      within_distinct = distinct_filter (λ k. is_member k root) (rows_in space.labels) distinct

      pub order_distinct : AreDistinct (order space.labels root)
      order_distinct =
          distinct_append (outside space.labels root) (within space.labels root) outside_distinct within_distinct
          (λ k c d. (outside_only k c).1 (within_only k d).1)

      -- ---- earlier
      pub not_earlier_itself : (k : ℕ) → IsEarlier space.labels root k k → ⊥
      not_earlier_itself k h = not_before_itself (order space.labels root) k order_distinct h

      pub earlier_is_other : (k i : ℕ) → IsEarlier space.labels root k i → k ≢ i
      earlier_is_other k i h = before_is_other (order space.labels root) k i order_distinct h

      pub not_earlier_and_later : (k i : ℕ) → IsEarlier space.labels root k i → IsEarlier space.labels root i k → ⊥
      not_earlier_and_later k i h g = not_before_and_behind (order space.labels root) k i order_distinct h g

      pub earlier_transitive : (k i j : ℕ) → IsEarlier space.labels root k i → IsEarlier space.labels root i j →
          IsEarlier space.labels root k j
      earlier_transitive k i j h g = before_transitive (order space.labels root) k i j order_distinct h g

    pub earlier_rows : (k i : ℕ) → IsEarlier space.labels root k i →
        Contains (rows_in space.labels) k × Contains (rows_in space.labels) i
    earlier_rows k i h =
        let m = precedes_members (order space.labels root) k i h in (order_only k m.0, order_only i m.1)

    pub one_is_earlier : (k i : ℕ) → Contains (rows_in space.labels) k → Contains (rows_in space.labels) i → k ≢ i →
        IsEarlier space.labels root k i ⊎ IsEarlier space.labels root i k
    one_is_earlier k i c d n = one_before_other (order space.labels root) k i (order_has k c) (order_has i d) n

    pub outside_is_earlier : (k i : ℕ) → Contains (outside space.labels root) k →
        Contains (within space.labels root) i →
        IsEarlier space.labels root k i
    outside_is_earlier k i c d = before_across (outside space.labels root) (within space.labels root) k i c d

    pub earlier_outside : (k i : ℕ) → Precedes (outside space.labels root) k i → IsEarlier space.labels root k i
    earlier_outside k i h = before_in_front (outside space.labels root) (within space.labels root) k i h

    pub earlier_within : (k i : ℕ) → Precedes (within space.labels root) k i → IsEarlier space.labels root k i
    earlier_within k i h = before_behind (outside space.labels root) (within space.labels root) k i h

    pub earlier_cases : (k i : ℕ) → IsEarlier space.labels root k i →
        Precedes (outside space.labels root) k i
        ⊎ ((Contains (outside space.labels root) k × Contains (within space.labels root) i)
        ⊎ Precedes (within space.labels root) k i)
    earlier_cases k i h = before_cases (outside space.labels root) (within space.labels root) k i h

    -- ---- outside the root, and in it, the smaller row is earlier
    module _ (ascending : IsAscending (rows_in space.labels)) where
      pub outside_ascending : IsAscending (outside space.labels root)
      outside_ascending = ascending_filter (λ k. not (is_member k root)) (rows_in space.labels) ascending

      pub within_ascending : IsAscending (within space.labels root)
      within_ascending = ascending_filter (λ k. is_member k root) (rows_in space.labels) ascending

      pub smaller_outside : (k i : ℕ) → Contains (outside space.labels root) k →
          Contains (outside space.labels root) i → k < i →
          IsEarlier space.labels root k i
      smaller_outside k i c d l =
          earlier_outside k i (smaller_is_before (outside space.labels root) k i outside_ascending c d l)

      pub smaller_within : (k i : ℕ) → Contains (within space.labels root) k → Contains (within space.labels root) i →
          k < i →
          IsEarlier space.labels root k i
      smaller_within k i c d l =
          earlier_within k i (smaller_is_before (within space.labels root) k i within_ascending c d l)

      -- what is earlier than a row outside the root is a smaller one outside it
      pub earlier_than_outside : (k i : ℕ) → IsEarlier space.labels root k i → (Contains root i → ⊥) →
          Contains (outside space.labels root) k × (k < i)
      earlier_than_outside k i h n =
          ⊎_elim
          (λ (p : Precedes (outside space.labels root) k i). (
            (precedes_members (outside space.labels root) k i p).0,
            before_is_smaller (outside space.labels root) k i outside_ascending p,
          ))
          (λ (r : (Contains (outside space.labels root) k × Contains (within space.labels root) i)
          ⊎ Precedes (within space.labels root) k i). absurd (⊎_elim
          (λ (c : Contains (outside space.labels root) k × Contains (within space.labels root) i).
          n (within_only i c.1).1)
          (λ (p : Precedes (within space.labels root) k i).
          n (within_only i (precedes_members (within space.labels root) k i p).1).1) r))
          (earlier_cases k i h)

    -- ---- the earliest and the latest row with a property that can be decided
    module _ (P : ℕ → Type 0) (decide : (k : ℕ) → Contains (rows_in space.labels) k → P k ⊎ (P k → ⊥)) (i : ℕ)
        (row : Contains (rows_in space.labels) i) (has : P i) where
      pub earliest_row : (s : ℕ) × Contains (rows_in space.labels) s × P s
          × ((k : ℕ) → Contains (rows_in space.labels) k → P k → (k ≡ s) ⊎ IsEarlier space.labels root s k)
      earliest_row =
          ⊎_elim
          (λ (none : (k : ℕ) → Contains (order space.labels root) k → P k → ⊥). absurd (none i (order_has i row) has))
          (λ (w : (s : ℕ) × IsFirst P (order space.labels root) s).
          (w.0, order_only w.0 w.1.member, w.1.has, λ k c p. w.1.first k (order_has k c) p))
          (first_with P (order space.labels root) (λ k c. decide k (order_only k c)))

      pub latest_row : AreDistinct (rows_in space.labels) → (s : ℕ) × Contains (rows_in space.labels) s × P s
          × ((k : ℕ) → Contains (rows_in space.labels) k → P k → (k ≡ s) ⊎ IsEarlier space.labels root k s)
      latest_row d =
          ⊎_elim
          (λ (none : (k : ℕ) → Contains (order space.labels root) k → P k → ⊥). absurd (none i (order_has i row) has))
          (λ (w : (s : ℕ) × IsLast P (order space.labels root) s).
          (w.0, order_only w.0 w.1.member, w.1.has, λ k c p. w.1.last k (order_has k c) p))
          (last_with P (order space.labels root) (order_distinct d) (λ k c. decide k (order_only k c)))
