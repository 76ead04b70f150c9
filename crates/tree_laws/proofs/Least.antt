-- The least of lists over positive factors, and the row of the ratio test.
use Rattle.std.proofs.Common.{◌≡◌, ◌⊎◌, inl, inr, ⊎_elim, ℕ, suc, ℤ, pos, neg_ℤ, ◌<ℤ◌, ◌≤ℤ◌, List, [], ◌∷◌, length, ap, subst, arith}
use Rattle.std.proofs.lemmas.Int.{by_lt_z}
use Rattle.std.specs.List.{Contains}
use Rattle.poly_num.specs.Vectors.{IsZero}
use Rattle.poly_num.proofs.Ring.{lin}
use Rattle.poly_model.specs.Spaces.{Space}
use Rattle.poly_model.specs.Dictionaries.{Table}
use Rattle.poly_model.specs.LexOrder.{IsNonnegative, IsPositive, gaps, outside, listed_at, list_of}
use Rattle.poly_model.specs.Tree.{IsRowOutside, ratio_gaps, Leaves}
use Rattle.linear_laws.proofs.Members.{Contains-nil, Contains-first, Contains-later, Contains-cons_cases}
use Rattle.tree_laws.proofs.LexLemmas.{positive_is_nonnegative, zero_is_nonnegative}
use Rattle.tree_laws.proofs.GapLemmas.{gaps_of_itself, gaps_total, gaps_antisymmetric, gaps_transitive, length_values}
use Rattle.tree_laws.proofs.OrderLemmas.{row_outside, is_row_outside}

-- each thing has a factor and a list, and all lists are of one length
module _ {X : Type 0} (p : X → ℤ) (l : X → List ℤ) (same : (x y : X) → length (l x) ≡ length (l y)) where
  -- the list of x over its factor is at most that of y over its own
  abbrev pub IsAtMost : X → X → Type 0
  IsAtMost x y = IsNonnegative (gaps (p x) (l y) (p y) (l x))

  pub at_most_itself : (x : X) → IsAtMost x x
  at_most_itself x = zero_is_nonnegative (gaps (p x) (l x) (p x) (l x)) (gaps_of_itself (p x) (l x))

  pub at_most_transitive : (x y z : X) → pos 0 <ℤ p x → pos 0 <ℤ p y → pos 0 <ℤ p z →
      IsAtMost x y → IsAtMost y z → IsAtMost x z
  at_most_transitive x y z hx hy hz h k =
      gaps_transitive (p x) (l x) (p y) (l y) (p z) (l z) hx hy hz (same x y) (same y z) h k

  pub at_most_or_back : (x y : X) → IsAtMost x y ⊎ IsAtMost y x
  at_most_or_back x y =
      ⊎_elim
      (λ (h : IsAtMost x y). inl h)
      (λ (h : IsPositive (gaps (p y) (l x) (p x) (l y))).
      inr (positive_is_nonnegative (gaps (p y) (l x) (p x) (l y)) h))
      (gaps_total (p x) (l y) (p y) (l x))

  -- of those whose factor is positive, r has the least list over its factor
  pub record IsLeastOf (xs : List X) (r : X) : Type 0 where
    pub member : Contains xs r
    pub positive : pos 0 <ℤ p r
    pub least : (x : X) → Contains xs x → pos 0 <ℤ p x → IsAtMost r x

  at_first_or_later : (P : X → Type 0) (x : X) (xs : List X) → P x → ((y : X) → Contains xs y → P y) →
      (y : X) → Contains (x ∷ xs) y → P y
  at_first_or_later P x xs h k y c =
      ⊎_elim (λ (e : x ≡ y). subst P e h) (λ (d : Contains xs y). k y d) (Contains-cons_cases y x xs c)

  pub none_or_least : (xs : List X) →
      ((x : X) → Contains xs x → p x ≤ℤ pos 0) ⊎ ((r : X) × IsLeastOf xs r)
  none_or_least [] = inl (λ x c. absurd (Contains-nil x c))
  none_or_least (x ∷ xs) =
      by_lt_z (pos 0) (p x)
      (λ up. ⊎_elim
      (λ (none : (y : X) → Contains xs y → p y ≤ℤ pos 0). inr (
        x,
        record {
          member = Contains-first x xs;
          positive = up;
          least = at_first_or_later (λ y. pos 0 <ℤ p y → IsAtMost x y) x xs (λ h. at_most_itself x)
              (λ y c h. let n = none y c in absurd (omega (arith, lin)));
        },
      ))
      (λ (w : (r : X) × IsLeastOf xs r). inr (⊎_elim
      (λ (h : IsAtMost x w.0). (
        x,
        record {
          member = Contains-first x xs;
          positive = up;
          least = at_first_or_later (λ y. pos 0 <ℤ p y → IsAtMost x y) x xs (λ k. at_most_itself x)
              (λ y c k. at_most_transitive x w.0 y up w.1.positive k h (w.1.least y c k));
        },
      ))
      (λ (h : IsAtMost w.0 x). (
        w.0,
        record {
          member = Contains-later w.0 x xs w.1.member;
          positive = w.1.positive;
          least = at_first_or_later (λ y. pos 0 <ℤ p y → IsAtMost w.0 y) x xs (λ k. h) w.1.least;
        },
      ))
      (at_most_or_back x w.0)))
      (none_or_least xs))
      (λ down. ⊎_elim
      (λ (none : (y : X) → Contains xs y → p y ≤ℤ pos 0).
      inl (at_first_or_later (λ y. p y ≤ℤ pos 0) x xs down none))
      (λ (w : (r : X) × IsLeastOf xs r). inr (
        w.0,
        record {
          member = Contains-later w.0 x xs w.1.member;
          positive = w.1.positive;
          least = at_first_or_later (λ y. pos 0 <ℤ p y → IsAtMost w.0 y) x xs
              (λ k. absurd (omega (arith, lin))) w.1.least;
        },
      ))
      (none_or_least xs))

  pub some_least : (xs : List X) (x : X) → Contains xs x → pos 0 <ℤ p x → (r : X) × IsLeastOf xs r
  some_least xs x c h =
      ⊎_elim
      (λ (none : (y : X) → Contains xs y → p y ≤ℤ pos 0). let n = none x c in absurd (omega (arith, lin)))
      (λ (w : (r : X) × IsLeastOf xs r). w)
      (none_or_least xs)

  -- where all factors are positive, one is least of all
  pub least_of_all : (xs : List X) (x : X) → Contains xs x → ((y : X) → Contains xs y → pos 0 <ℤ p y) →
      (r : X) × Contains xs r × ((y : X) → Contains xs y → IsAtMost r y)
  least_of_all xs x c up =
      let w = some_least xs x c (up x c) in (w.0, w.1.member, λ y d. w.1.least y d (up y d))

-- ---- the ratio test
module _ (space : Space) (root key : List ℕ) (t : Table) where
  pub length_lists : (i j : ℕ) → length (list_of space.labels root key t i) ≡ length (list_of space.labels root key t j)
  length_lists i j = ap suc (length_values (listed_at key t i) (listed_at key t j) (outside space.labels root))

  module _ (s : ℕ) where
    abbrev IsLeaving : ℕ → Type 0
    IsLeaving r =
        IsLeastOf (λ i. neg_ℤ (t.entry i s)) (λ i. list_of space.labels root key t i) length_lists
        (outside space.labels key) r

    leaves_if_least : (r : ℕ) → IsLeaving r → Leaves space.labels root key t s r
    leaves_if_least r h = record {
      row = is_row_outside space key r h.member;
      negative = let d = h.positive in omega (arith, lin);
      least = λ i o n. h.least i (row_outside space key i o) (omega (arith, lin));
    }

    -- no row outside the key is negative in the column of s, or some row leaves
    pub none_or_leaves :
        ((i : ℕ) → IsRowOutside space.labels key i → pos 0 ≤ℤ t.entry i s)
        ⊎ ((r : ℕ) × Leaves space.labels root key t s r)
    none_or_leaves =
        ⊎_elim
        (λ (none : (i : ℕ) → Contains (outside space.labels key) i → neg_ℤ (t.entry i s) ≤ℤ pos 0).
        inl (λ i o. let n = none i (row_outside space key i o) in omega (arith, lin)))
        (λ (w : (r : ℕ) × IsLeaving r). inr (w.0, leaves_if_least w.0 w.1))
        (none_or_least (λ i. neg_ℤ (t.entry i s)) (λ i. list_of space.labels root key t i) length_lists
        (outside space.labels key))

    pub some_leaves : (i : ℕ) → IsRowOutside space.labels key i → t.entry i s <ℤ pos 0 →
        (r : ℕ) × Leaves space.labels root key t s r
    some_leaves i o n =
        ⊎_elim
        (λ (none : (i : ℕ) → IsRowOutside space.labels key i → pos 0 ≤ℤ t.entry i s).
        let m = none i o in absurd (omega (arith, lin)))
        (λ (w : (r : ℕ) × Leaves space.labels root key t s r). w)
        none_or_leaves

    -- of two rows that leave, the one over its factor is the other over its own
    pub leaving_rows_tie : (r q : ℕ) → Leaves space.labels root key t s r → Leaves space.labels root key t s q →
        IsZero (ratio_gaps space.labels root key t s r q)
    leaving_rows_tie r q h k =
        gaps_antisymmetric (neg_ℤ (t.entry r s)) (list_of space.labels root key t q) (neg_ℤ (t.entry q s))
        (list_of space.labels root key t r) (h.least q k.row k.negative) (k.least r h.row h.negative)
