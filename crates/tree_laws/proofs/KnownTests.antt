-- The tests of the tree of cobases, tried at each row outside the key and at each column. For the known values in the
-- files Known*.
use Rattle.std.proofs.Common.{◌≡◌, ◌⊎◌, ℕ, pos, ◌≤ℤ◌, ◌<ℤ◌, List, map}
use Rattle.std.specs.Prelude.{◌≢◌}
use Rattle.std.specs.List.{AllByRecursion, Contains, filter}
use Rattle.std.specs.Ordering.{int_eq}
use Rattle.poly_model.specs.Spaces.{Space}
use Rattle.poly_model.specs.Dictionaries.{Table}
use Rattle.poly_model.specs.LexOrder.{IsNonnegative, IsPositive, outside, order, backwards, IsEarlier, list_of}
use Rattle.poly_model.specs.Tree.{IsRowOutside, IsRowDictionary, IsLexFeasible, ratio_gaps, Leaves}
use Rattle.poly_model.specs.Tree.{MayEnter, Enters, ShowsPoint, ShowsRay}
use Rattle.linear_laws.proofs.Members.{all_at}
use Rattle.tree_laws.proofs.OrderLemmas.{row_outside, is_row_outside}

module _ (space : Space) (root key : List ℕ) (t : Table) where
  each_outside : (P : ℕ → Type 0) → AllByRecursion P (outside space.labels key) → (i : ℕ) →
      IsRowOutside space.labels key i → P i
  each_outside P h i o = all_at P (outside space.labels key) h i (row_outside space key i o)

  -- the list of row i is positive
  abbrev pub IsListed : ℕ → Type 0
  IsListed i = IsPositive (list_of space.labels root key t i)

  pub is_lex_feasible : IsRowDictionary space key t → AllByRecursion IsListed (outside space.labels key) →
      IsLexFeasible space root key t
  is_lex_feasible d h = record { dictionary = d; lists = each_outside IsListed h }

  module _ (s : ℕ) where
    -- row i is not before row r in the ratio test
    abbrev pub IsNotBefore : ℕ → ℕ → Type 0
    IsNotBefore r i = t.entry i s <ℤ pos 0 → IsNonnegative (ratio_gaps space.labels root key t s r i)

    pub leaves : (r : ℕ) → Contains (outside space.labels key) r → t.entry r s <ℤ pos 0 →
        AllByRecursion (IsNotBefore r) (outside space.labels key) → Leaves space.labels root key t s r
    leaves r c n h =
        record { row = is_row_outside space key r c; negative = n; least = each_outside (IsNotBefore r) h }

    -- column k may not enter before s
    abbrev pub EntersFirst : ℕ → Type 0
    EntersFirst k = MayEnter space.labels root t k → (k ≡ s) ⊎ IsEarlier space.labels root s k

    pub enters : Contains key s → MayEnter space.labels root t s → AllByRecursion EntersFirst key →
        Enters space.labels root key t s
    enters c m h = record { column = c; may = m; least = all_at EntersFirst key h }

    -- along s the column of j is positive at the greatest row
    abbrev pub IsUp : ℕ → Type 0
    IsUp j =
        j ≢ s →
        IsPositive (map (λ q. t.entry q j)
        (filter (λ q. int_eq (t.entry q s) (pos 0)) (backwards (order space.labels root))))

    pub shows_ray : Contains key s → AllByRecursion (λ i. pos 0 ≤ℤ t.entry i s) (outside space.labels key) →
        AllByRecursion IsUp key → ShowsRay space.labels root key t s
    shows_ray c n h = record {
      column = c;
      none = each_outside (λ i. pos 0 ≤ℤ t.entry i s) n;
      others = all_at IsUp key h;
    }

  -- where row i is 0 at the point, it is 0 in the columns of earlier rows
  abbrev pub IsClear : ℕ → Type 0
  IsClear i = t.constant i ≡ pos 0 → AllByRecursion (λ k. IsEarlier space.labels root k i → t.entry i k ≡ pos 0) key

  pub shows_point : AllByRecursion IsClear (outside space.labels key) → ShowsPoint space.labels root key t
  shows_point h i o z k c e =
      all_at (λ k. IsEarlier space.labels root k i → t.entry i k ≡ pos 0) key (each_outside IsClear h i o z) k c e
