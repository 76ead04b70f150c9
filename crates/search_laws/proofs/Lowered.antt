-- A row that is negative in some column is lowered by the neighbour there; there is one step at most.
use Rattle.std.proofs.Common.{◌≡◌, ◌⊎◌, inl, inr, ⊎_elim, ℕ, List, [], ◌∷◌, ◌++◌, ℤ, pos, refl, sym, ap, subst, ◌∙◌, arith}
use Rattle.std.specs.Prelude.{None, ◌<ℤ◌, ◌≤ℤ◌}
use Rattle.std.specs.List.{Contains}
use Rattle.std.proofs.lemmas.Int.{by_lt_z}
use Rattle.std.proofs.lemmas.List.Elements.{All-contains}
use Rattle.poly_num.proofs.Ring.{lin}
use Rattle.poly_model.specs.Spaces.{Space}
use Rattle.poly_model.specs.Dictionaries.{Table}
use Rattle.poly_model.specs.LexOrder.{IsPositive, gaps, rows_in, order, IsEarlier, list_of}
use Rattle.poly_model.specs.Tree.{IsRowDictionary, IsLexFeasible, IsNeighbour, exchanged_key}
use Rattle.linear_laws.specs.Distinct.{AreDistinct}
use Rattle.linear_laws.proofs.Members.{Contains-nil}
use Rattle.linear_laws.proofs.Signs.{not_both, minus_positive}
use Rattle.dictionary_laws.proofs.Members.{contains_or, contains_cases}
use Rattle.poly_model.specs.Lowering.{IsLoweringStep, IsLowest}
use Rattle.search_laws.specs.Lowering.{LowersRow}
use Rattle.tree_laws.proofs.Levels.{level_list, own_level, list_is_levels}
use Rattle.tree_laws.proofs.FirstMembers.{IsFirst, first_with}
use Rattle.tree_laws.proofs.OrderLemmas.{order_has, not_earlier_and_later}
use Rattle.tree_laws.proofs.Least.{some_leaves}
use Rattle.tree_laws.proofs.Neighbours.{key_entry, neighbour_exchanges, one_neighbour}
use Rattle.tree_laws.proofs.AnyTable.{same_entry, neighbour_too}
use Rattle.tree_laws.proofs.Falls.{level_gaps, falls}

append_nil : (xs : List ℤ) → xs ++ [] ≡ xs
append_nil [] = refl
append_nil (x ∷ xs) = ap (λ ys. x ∷ ys) (append_nil xs)

pub only_row : (space : Space) (q : ℕ) → Contains (rows_in space.labels) q → (j : ℕ) → Contains (q ∷ []) j →
    Contains (rows_in space.labels) j
only_row space q l j c =
    ⊎_elim
    (λ (e : j ≡ q). subst (Contains (rows_in space.labels)) (sym e) l)
    (λ (d : Contains [] j). absurd (Contains-nil j d))
    (contains_cases q [] j c)

-- a row of the key is negative in no column
pub lowest_in_key : (space : Space) (key : List ℕ) (t : Table) → IsRowDictionary space key t → (q : ℕ) →
    Contains key q → IsLowest key t q × (t.constant q ≡ pos 0)
lowest_in_key space key t d q m = (
  λ s c. by_lt_z (t.entry q s) (pos 0) (λ up. absurd (key_entry space key t d q s m c up)) (λ down. down),
  own_level space key t d q m None,
)

module _ (space : Space) (root key : List ℕ) (t : Table) (d : IsRowDictionary space key t) (q : ℕ)
    (l : Contains (rows_in space.labels) q) where
  -- ---- one step
  module _ (s : ℕ) (c : Contains key s) (h : t.entry q s <ℤ pos 0) where
    outside : Contains key q → ⊥
    outside m = key_entry space key t d q s m c h

    pub some_neighbour : (new : List ℕ) × IsNeighbour space.labels root key t s new
    some_neighbour =
        let w = some_leaves space root key t s q (record { row = l; outside = outside }) h in (
          exchanged_key key s w.0,
          record { column = c; r = w.0; leaves = w.1; exchange = refl },
        )

    pub row_falls : (new : List ℕ) (u : Table) → IsNeighbour space.labels root key t s new →
        IsLexFeasible space root new u →
        IsPositive (level_gaps space root key t new u (q ∷ []))
    row_falls new u n g =
        falls space root key new t u d g s n.r n.column n.leaves.row.outside
        (neighbour_exchanges space root key t s new d n) (q ∷ []) (only_row space q l)
        (inl (minus_positive (t.entry q s) h))

    list_falls : (new : List ℕ) (u : Table) → IsNeighbour space.labels root key t s new →
        IsLexFeasible space root new u →
        (Contains new q → ⊥) →
        IsPositive (gaps u.denominator (list_of space.labels root key t q) t.denominator
        (list_of space.labels root new u q))
    list_falls new u n g o =
        subst (λ xs. IsPositive (gaps u.denominator xs t.denominator (list_of space.labels root new u q)))
        (append_nil (level_list space root key t q) ∙ sym (list_is_levels space root key t q outside))
        (subst (λ xs. IsPositive (gaps u.denominator (level_list space root key t q ++ []) t.denominator xs))
        (append_nil (level_list space root new u q) ∙ sym (list_is_levels space root new u q o))
        (row_falls new u n g))

    pub lowers_row : LowersRow space root key t q s
    lowers_row = record {
      some = some_neighbour;
      falls = λ new u n g.
          ⊎_elim (λ (m : Contains new q). inl m) (λ (o : Contains new q → ⊥). inr (list_falls new u n g o))
          (contains_or new q);
    }

  -- ---- the least column
  IsNegative : ℕ → Type 0
  IsNegative k = Contains key k × (t.entry q k <ℤ pos 0)

  negative_or_not : (k : ℕ) → IsNegative k ⊎ (IsNegative k → ⊥)
  unfolding IsNegative
  negative_or_not k =
      ⊎_elim
      (λ (c : Contains key k). by_lt_z (t.entry q k) (pos 0) (λ up. inl (c, up)) (λ down. inr (λ m. below k m.1 down)))
      (λ (n : Contains key k → ⊥). inr (λ m. n m.0))
      (contains_or key k)
    where
      below : (k : ℕ) → t.entry q k <ℤ pos 0 → pos 0 ≤ℤ t.entry q k → ⊥
      below k a b = omega (arith, lin)

  pub some_step : IsLowest key t q ⊎ ((new : List ℕ) × IsLoweringStep space.labels root q key t new)
  unfolding IsNegative
  some_step =
      ⊎_elim
      (λ (none : (k : ℕ) → Contains (order space.labels root) k → IsNegative k → ⊥).
      inl (λ s c. by_lt_z (t.entry q s) (pos 0) (λ up. absurd (none s (here s c) (c, up))) (λ down. down)))
      (λ (w : (s : ℕ) × IsFirst IsNegative (order space.labels root) s).
      let n = some_neighbour w.0 w.1.has.0 w.1.has.1 in
      inr (
        n.0,
        record {
          s = w.0;
          lowers = record {
            column = w.1.has.0;
            negative = w.1.has.1;
            least = λ k c m. w.1.first k (here k c) (c, m);
          };
          neighbour = n.1;
        },
      ))
      (first_with IsNegative (order space.labels root) (λ k _. negative_or_not k))
    where
      here : (k : ℕ) → Contains key k → Contains (order space.labels root) k
      here k c = order_has space root k (All-contains (Contains (rows_in space.labels)) key k d.rows c)

  -- ---- by any table
  module _ (u : Table) (e : IsRowDictionary space key u) where
    same : (s : ℕ) → Contains key s → t.entry q s ≡ u.entry q s
    same s c = same_entry space root key t u d e q s l c

    pub lowest_too : IsLowest key t q → IsLowest key u q
    lowest_too h s c = subst (λ (x : ℤ). pos 0 ≤ℤ x) (same s c) (h s c)

    pub step_too : (new : List ℕ) → IsLoweringStep space.labels root q key t new →
        IsLoweringStep space.labels root q key u new
    step_too new x = record {
      s = x.s;
      lowers = record {
        column = x.lowers.column;
        negative = subst (λ (v : ℤ). v <ℤ pos 0) (same x.s x.lowers.column) x.lowers.negative;
        least = λ k c m. x.lowers.least k c (subst (λ (v : ℤ). v <ℤ pos 0) (sym (same k c)) m);
      };
      neighbour = neighbour_too space root key t u d e x.s new x.neighbour;
    }

  pub no_step : IsLowest key t q → (new : List ℕ) → IsLoweringStep space.labels root q key t new → ⊥
  no_step h new x = not_both (t.entry q x.s) x.lowers.negative (h x.s x.lowers.column)

  pub one_step : (home : Table) → IsRowDictionary space root home → AreDistinct (rows_in space.labels) →
      (new other : List ℕ) → IsLoweringStep space.labels root q key t new →
      IsLoweringStep space.labels root q key t other → new ≡ other
  one_step home r distinct new other x y =
      one_neighbour space root key t home r d x.s new other x.neighbour
      (subst (λ s. IsNeighbour space.labels root key t s other) (sym column) y.neighbour)
    where
      column : x.s ≡ y.s
      column =
          ⊎_elim
          (λ (e : x.s ≡ y.s). e)
          (λ (g : IsEarlier space.labels root y.s x.s). ⊎_elim
          (λ (e : y.s ≡ x.s). sym e)
          (λ (f : IsEarlier space.labels root x.s y.s).
          absurd (not_earlier_and_later space root distinct x.s y.s f g))
          (x.lowers.least y.s y.lowers.column y.lowers.negative))
          (y.lowers.least x.s x.lowers.column x.lowers.negative)
