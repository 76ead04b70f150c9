-- The column that enters: whether a column may enter can be decided, and the least of those that may is one.
use Rattle.std.proofs.Common.{◌≡◌, ◌⊎◌, inl, inr, ⊎_elim, ℕ, neg_ℤ, List, map, sym}
use Rattle.std.specs.List.{All, Contains}
use Rattle.std.proofs.lemmas.List.Elements.{All-contains}
use Rattle.poly_model.specs.Spaces.{Space}
use Rattle.poly_model.specs.Dictionaries.{Table}
use Rattle.poly_model.specs.LexOrder.{IsNonnegative, rows_in, within, order, backwards, IsEarlier}
use Rattle.poly_model.specs.Tree.{MayEnter, Enters}
use Rattle.linear_laws.specs.Distinct.{AreDistinct}
use Rattle.dictionary_laws.proofs.Members.{contains_or}
use Rattle.tree_laws.proofs.LexLemmas.{positive_or_not, values_nonnegative, values_not_both}
use Rattle.tree_laws.proofs.FirstMembers.{IsFirst, first_with}
use Rattle.tree_laws.proofs.OrderLemmas.{order_has, not_earlier_and_later}

module _ (space : Space) (root : List ℕ) (t : Table) where
  pub may_enter_or_not : (s : ℕ) → MayEnter space.labels root t s ⊎ (MayEnter space.labels root t s → ⊥)
  may_enter_or_not s = positive_or_not (map (λ q. neg_ℤ (t.entry q s)) (backwards (within space.labels root)))

  -- a column that may not enter is not negative on the rows of the root, the greatest first
  pub enters_or_up : (s : ℕ) →
      IsNonnegative (map (λ q. t.entry q s) (backwards (within space.labels root))) ⊎ MayEnter space.labels root t s
  enters_or_up s = values_nonnegative (λ q. t.entry q s) (backwards (within space.labels root))

  pub up_cannot_enter : (s : ℕ) → IsNonnegative (map (λ q. t.entry q s) (backwards (within space.labels root))) →
      MayEnter space.labels root t s → ⊥
  up_cannot_enter s h m = values_not_both (λ q. t.entry q s) (backwards (within space.labels root)) h m

  module _ (key : List ℕ) where
    abbrev IsEntering : ℕ → Type 0
    IsEntering k = Contains key k × MayEnter space.labels root t k

    entering_or_not : (k : ℕ) → IsEntering k ⊎ (IsEntering k → ⊥)
    entering_or_not k =
        ⊎_elim
        (λ (c : Contains key k). ⊎_elim
        (λ (m : MayEnter space.labels root t k). inl (c, m))
        (λ (n : MayEnter space.labels root t k → ⊥). inr (λ h. n h.1)) (may_enter_or_not k))
        (λ (n : Contains key k → ⊥). inr (λ h. n h.0))
        (contains_or key k)

    -- no column may enter, or the least of those that may does
    pub none_or_enters : All (Contains (rows_in space.labels)) key →
        ((k : ℕ) → Contains key k → MayEnter space.labels root t k → ⊥) ⊎ ((s : ℕ) × Enters space.labels root key t s)
    none_or_enters rows =
        ⊎_elim
        (λ (none : (k : ℕ) → Contains (order space.labels root) k → IsEntering k → ⊥).
        inl (λ k c m. none k (here k c) (c, m)))
        (λ (w : (s : ℕ) × IsFirst IsEntering (order space.labels root) s). inr (
          w.0,
          record {
            column = w.1.has.0;
            may = w.1.has.1;
            least = λ k c m. w.1.first k (here k c) (c, m);
          },
        ))
        (first_with IsEntering (order space.labels root) (λ k c. entering_or_not k))
      where
        here : (k : ℕ) → Contains key k → Contains (order space.labels root) k
        here k c = order_has space root k (All-contains (Contains (rows_in space.labels)) key k rows c)

    pub some_enters : All (Contains (rows_in space.labels)) key → (k : ℕ) → Contains key k →
        MayEnter space.labels root t k →
        (s : ℕ) × Enters space.labels root key t s
    some_enters rows k c m =
        ⊎_elim
        (λ (none : (k : ℕ) → Contains key k → MayEnter space.labels root t k → ⊥). absurd (none k c m))
        (λ (w : (s : ℕ) × Enters space.labels root key t s). w)
        (none_or_enters rows)

    pub enters_is_one : AreDistinct (rows_in space.labels) → (s r : ℕ) → Enters space.labels root key t s →
        Enters space.labels root key t r → s ≡ r
    enters_is_one d s r e f =
        ⊎_elim
        (λ (h : s ≡ r). h)
        (λ (h : IsEarlier space.labels root r s). ⊎_elim
        (λ (g : r ≡ s). sym g)
        (λ (g : IsEarlier space.labels root s r). absurd (not_earlier_and_later space root d s r g h))
        (e.least r f.column f.may))
        (f.least s e.column e.may)
