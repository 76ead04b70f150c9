-- The labels of keys; and what stands at a list with one label more.
use Rattle.std.proofs.Common.{◌≡◌, ⊎_elim, true, false, not, ℕ, ◌+◌, ◌-◌, ◌≤◌, ◌<◌, List, [], ◌∷◌, ◌++◌, length, length-append, refl, sym, subst, arith}
use Rattle.std.specs.List.{Contains, range_with_len}
use Rattle.std.proofs.lemmas.Bool.{not_from_false}
use Rattle.std.proofs.lemmas.List.Elements.{All-contains, Contains-append_right, Contains-append_cases}
use Rattle.poly_model.specs.Keys.{IsAscending}
use Rattle.poly_model.specs.Systems.{Polyhedron, cone_of, row_of}
use Rattle.linear_laws.proofs.Members.{Contains-nil, Contains-first, Contains-later, all_at}
use Rattle.dictionary_laws.proofs.Members.{all_from, contains_cases}
use Rattle.dictionary_laws.proofs.Filters.{filter_only, filter_kept, range_only, range_has}
use Rattle.poly_model.specs.Limits.{most_labels}
use Rattle.work_core.specs.Meanings.{Meaning, StandsUnder}
use Rattle.work_core.specs.Subsets.{plain_labels}
use Rattle.work_core.specs.Searches.{by_subsets}
use Rattle.work_core.proofs.SubsetShares.{is_key}
use Rattle.subset_work.specs.Standing.{IsNext, HasRoom}

-- a label above those of an ascending list comes behind them
pub ascending_append : (a : List ℕ) (j : ℕ) → IsAscending a → ((k : ℕ) → Contains a k → k < j) → IsAscending (a ++ j ∷ [])
ascending_append [] j h l = (tt, tt)
ascending_append (x ∷ a) j h l = (
  all_from (λ y. x < y) (a ++ j ∷ [])
      (λ k c. ⊎_elim (λ d. all_at (λ y. x < y) a h.0 k d)
      (λ (d : Contains (j ∷ []) k). let m = l x (Contains-first x a) in
      ⊎_elim (λ (e : k ≡ j). omega arith) (λ (f : Contains [] k). absurd (Contains-nil k f)) (contains_cases j [] k d))
      (Contains-append_cases a (j ∷ []) k c)),
  ascending_append a j h.1 (λ k c. l k (Contains-later k x a c)),
)

-- the label of an ascending list stands above those before it
pub above_front : (a : List ℕ) (j : ℕ) (more : List ℕ) → IsAscending (a ++ j ∷ more) → (k : ℕ) → Contains a k → k < j
above_front [] j more h k c = absurd (Contains-nil k c)
above_front (x ∷ a) j more h k c =
    ⊎_elim
    (λ (e : k ≡ x). let l = all_at (λ y. x < y) (a ++ j ∷ more) h.0 j (Contains-append_right a (j ∷ more) j (Contains-first j more)) in
    omega (arith, l, e))
    (λ d. above_front a j more h.1 k d) (contains_cases x a k c)

module _ (p : Polyhedron) where
  abbrev s : Meaning
  s = by_subsets p

  pub plain_label : (i : ℕ) → Contains (plain_labels p) i → (0 < i) × (i ≤ length (cone_of p).rows) × ((row_of (cone_of p).rows i).linear ≡ false)
  plain_label i c =
      let h = filter_only (λ i. not (row_of (cone_of p).rows i).linear) (range_with_len 1 (length (cone_of p).rows)) i c in
      let r = range_only 1 (length (cone_of p).rows) i h.0 in
      let a = r.0 in let b = r.1 in
      (omega arith, omega arith, from_not (row_of (cone_of p).rows i).linear h.1)
    where
      from_not : (b : _) → not b ≡ true → b ≡ false
      from_not true e = absurd cc
      from_not false e = refl

  pub is_plain : (i : ℕ) → 0 < i → i ≤ length (cone_of p).rows → (row_of (cone_of p).rows i).linear ≡ false → Contains (plain_labels p) i
  is_plain i a b e =
      filter_kept (λ i. not (row_of (cone_of p).rows i).linear) (range_with_len 1 (length (cone_of p).rows)) i
      (range_has 1 (length (cone_of p).rows) i a (omega arith)) (not_from_false (row_of (cone_of p).rows i).linear e)

  pub child_under : (key : List ℕ) (j : ℕ) → StandsUnder s (key ++ j ∷ []) key
  child_under key j = (1, record { more = j ∷ []; begins = refl; count = refl })

  -- ---- a child
  pub child_room : (key : List ℕ) (left i from : ℕ) → length key + left ≤ most_labels → 0 < left → HasRoom p key left → IsNext key from → from ≤ i →
      Contains (plain_labels p) i → HasRoom p (key ++ i ∷ []) (left - 1)
  child_room key left i from few some room next l c =
      let g = length-append key (i ∷ []) in
      record {
        narrow = room.narrow;
        is_key = is_key p (key ++ i ∷ []) room.dimension room.reduced
            (ascending_append key i room.is_key.ascending.ascending (λ k d. let a = next.above k d in omega (arith, a, l)))
            (omega (arith, g))
            (λ k d. ⊎_elim (λ e. All-contains (Contains (plain_labels p)) key k room.is_key.rows e)
            (λ (e : Contains (i ∷ []) k). ⊎_elim (λ (f : k ≡ i). subst (Contains (plain_labels p)) (sym f) c)
            (λ (f : Contains [] k). absurd (Contains-nil k f)) (contains_cases i [] k e))
            (Contains-append_cases key (i ∷ []) k d))
            (omega (arith, g, room.count));
        dimension = room.dimension;
        reduced = room.reduced;
        count = omega (arith, g, room.count);
      }

  pub child_next : (key : List ℕ) (i from : ℕ) → IsNext key from → from ≤ i → IsNext (key ++ i ∷ []) (i + 1)
  child_next key i from next l = record {
    some = omega arith;
    above = λ k d. ⊎_elim (λ e. let a = next.above k e in omega (arith, a, l))
        (λ (e : Contains (i ∷ []) k). ⊎_elim (λ (f : k ≡ i). omega (arith, f))
        (λ (f : Contains [] k). absurd (Contains-nil k f)) (contains_cases i [] k e))
        (Contains-append_cases key (i ∷ []) k d);
    least = λ j some h. let a = h i (Contains-append_right key (i ∷ []) i (Contains-first i [])) in omega (arith, a);
  }
