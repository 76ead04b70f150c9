-- What is shown at a prefix that leaves one direction, by the local test.
use Rattle.std.proofs.Common.{◌≡◌, ◌↔◌, Bool, ℕ, pos, neg_ℤ, List, [], ◌∷◌, map, sym, subst, arith}
use Rattle.std.proofs.lemmas.List.{append-nil}
use Rattle.std.specs.List.{Contains}
use Rattle.poly_num.specs.Vectors.{Vector, ◌·◌, IsZero, IsPrimitive, IsMultipleOf}
use Rattle.poly_model.specs.Independence.{Vanish, IsAlone}
use Rattle.linear_laws.specs.NewRows.{AreNew}
use Rattle.linear_laws.specs.LocalTest.{AreFirstTight, HaveSameZeros}
use Rattle.linear_laws.proofs.Alone.{alone_by_first_basis}
use Rattle.linear_laws.proofs.Proportions.{values_from_multiples, zero_from_proportion, factor_nonzero}
use Rattle.listing_laws.specs.ListedCone.{ListedCone, row_at, IsListable}
use Rattle.listing_laws.specs.Lists.{Lists}
use Rattle.listing_laws.specs.Prefixes.{taken_at, marked_labels, IsCornerUnder}
use Rattle.listing_laws.specs.Directions.{LeavesOne, PassesLocalTest, IsShownAlong}
use Rattle.listing_laws.proofs.FirstLists.{labels_within, length-taken}
use Rattle.listing_laws.proofs.ListLemmas.{lists_none}
use Rattle.listing_laws.proofs.StandingLemmas.{Stands, rows_by_label, new_taken, vanish_from_labels}
use Rattle.listing_laws.proofs.LocalTest.{LeavesOnly, test_is_first}
use Rattle.listing_laws.proofs.AlongLemmas.{shown_along, under_if_first, list_of_one, list_of_none}

module _ (cone : ListedCone) (listable : IsListable cone) (marks : List Bool) (z : Vector)
    (s : LeavesOne cone marks z) where
  stands : Stands s.duals 1 cone.base cone.rows marks
  stands = record {
    rows = rows_by_label cone;
    within = s.within;
    into = λ k c. c;
    back = λ k c l. c;
    zero_before = λ k c l. (s.duals k c).base;
  }

  -- ---- all that is left is along z
  is_new : AreNew cone.n (taken_at cone marks)
  is_new = new_taken s.duals 1 cone.base cone.rows marks stands listable.independent

  vanish_at : (w : Vector) → Vanish cone.base w →
      ((k : ℕ) → Contains (marked_labels marks) k → row_at cone k · w ≡ pos 0) → Vanish (taken_at cone marks) w
  vanish_at w v h =
      vanish_from_labels s.duals 1 cone.base cone.rows marks stands w v (λ k c l. h k c)

  alone : IsAlone cone.n (taken_at cone marks) z
  alone =
      let count = s.count in
      let l = length-taken cone.base cone.rows marks 1 s.within in
      let zero = vanish_at z s.left.base s.left.taken in
      let h =
      (alone_by_first_basis cone.n (taken_at cone marks) [] [] z is_new tt s.left.width zero tt s.left.nonzero).1
      (omega arith) in
      subst (λ gs. IsAlone cone.n gs z) (append-nil (taken_at cone marks)) h

  leaves_only : LeavesOnly s.duals z s.left 1 cone.base
  leaves_only g w e l v h =
      let m = alone w l (vanish_at w v (λ k c. h k c (labels_within 1 marks k c).0)) in
      zero_from_proportion m.0 m.1 (g · w) (g · z) m.2 (values_from_multiples m.0 m.1 w z m.3 g) e

  same_zeros : (y : Vector) → (IsZero y → ⊥) → IsMultipleOf z y → HaveSameZeros y z
  same_zeros y nz (p, q, np, e) g =
      let nq = factor_nonzero p q y z np nz e in
      let h = values_from_multiples p q y z e g in
      (λ a. zero_from_proportion q p (g · z) (g · y) nq (sym h) a, λ a. zero_from_proportion p q (g · y) (g · z) np h a)

  -- ---- the test
  test_by_labels : (y : Vector) → (IsZero y → ⊥) → IsMultipleOf z y →
      PassesLocalTest cone (marked_labels marks) s.duals z ↔ AreFirstTight cone.n cone.base y cone.rows marks
  test_by_labels y nz m =
      let h =
      test_is_first s.duals z s.left y (same_zeros y nz m) 1 cone.base cone.rows marks stands
      leaves_only in
      (λ p. h.0 (λ i l. p i (omega arith)), λ f i l. h.1 f i (omega arith))

  pub under_is_tested : (y : Vector) →
      IsCornerUnder cone marks y ↔ (IsShownAlong cone z y × PassesLocalTest cone (marked_labels marks) s.duals z)
  under_is_tested y = (
    λ u. let a = shown_along cone marks z alone y u in (a, (test_by_labels y a.primitive.0 a.along).1 u.1),
    λ h. under_if_first cone marks z alone y h.0 ((test_by_labels y h.0.primitive.0 h.0.along).0 h.1),
  )

  -- ---- what is shown
  pub nothing_if_it_fails : (PassesLocalTest cone (marked_labels marks) s.duals z → ⊥) →
      Lists (IsCornerUnder cone marks) []
  nothing_if_it_fails h = lists_none (IsCornerUnder cone marks) (λ y u. h ((under_is_tested y).0 u).1)

  pub one_if_it_passes : PassesLocalTest cone (marked_labels marks) s.duals z →
      (y : Vector) → IsShownAlong cone z y → Lists (IsCornerUnder cone marks) (y ∷ [])
  one_if_it_passes p y a = list_of_one cone marks z alone listable y ((under_is_tested y).1 (a, p))

  pub nothing_if_neither : (y : Vector) → IsPrimitive y → IsMultipleOf z y →
      (IsShownAlong cone z y → ⊥) → (IsShownAlong cone z (map neg_ℤ y) → ⊥) → Lists (IsCornerUnder cone marks) []
  nothing_if_neither y p m h k =
      list_of_none cone marks z alone y p m (λ u. h (shown_along cone marks z alone y u))
      (λ u. k (shown_along cone marks z alone (map neg_ℤ y) u))
