-- A key at which each row that is 0 at y, if it is not in the key, follows from those in the key that stand after it in
-- a list. It is made from the key of the root: row by row from the end of the list on, each takes the place of a label
-- in whose column it is not 0, if there is one that is not among those after it which are 0 at y. Rows that are not 0
-- at y may come in so; of the whole order none is left in the key (SomePoint).
use Rattle.std.proofs.Common.{◌≡◌, ◌≢◌, ◌⊎◌, inl, inr, ⊎_elim, ℕ, List, [], ◌∷◌, pos, subst}
use Rattle.std.specs.List.{Contains}
use Rattle.poly_num.specs.Vectors.{Vector, ◌·◌}
use Rattle.poly_model.specs.Spaces.{Space, IsDirection}
use Rattle.poly_model.specs.Dictionaries.{Table}
use Rattle.poly_model.specs.LexOrder.{rows_in}
use Rattle.poly_model.specs.Tree.{IsRowDictionary, exchanged_key}
use Rattle.linear_laws.proofs.Members.{Contains-first, Contains-later}
use Rattle.linear_laws.proofs.Signs.{zero_or}
use Rattle.dictionary_laws.specs.Keys.{Exchanges}
use Rattle.dictionary_laws.proofs.Members.{contains_or}
use Rattle.tree_laws.proofs.ExchangedKeys.{exchanges}
use Rattle.tree_laws.proofs.Exchange.{exchanged_dictionary}
use Rattle.tree_laws.proofs.FirstMembers.{IsFirst, first_with}
use Rattle.tree_laws.proofs.PointValues.{row_at_direction}

module _ (space : Space) (y : Vector) where
  abbrev pub IsTight : ℕ → Type 0
  IsTight k = space.form k · y ≡ pos 0

  -- row x is 0 at each direction at which the rows of the list in the key that are 0 at y are 0
  abbrev pub FollowsIn : List ℕ → List ℕ → ℕ → Type 0
  FollowsIn xs key x =
      (z : Vector) → IsDirection space z →
      ((k : ℕ) → Contains xs k → IsTight k → Contains key k → space.form k · z ≡ pos 0) → space.form x · z ≡ pos 0

  -- each row of the list that is 0 at y is in the key, or follows from those after it
  abbrev pub Settled : List ℕ → List ℕ → Type 0
  Settled key [] = Unit {0}
  Settled key (x ∷ xs) = (IsTight x → Contains key x ⊎ FollowsIn xs key x) × Settled key xs

  still_settled : (key new xs : List ℕ) →
      ((k : ℕ) → Contains xs k → IsTight k → Contains key k → Contains new k) → Settled key xs → Settled new xs
  still_settled key new [] h s = tt
  still_settled key new (x ∷ xs) h s = (
    λ e. ⊎_elim
        (λ (c : Contains key x). inl (h x (Contains-first x xs) e c))
        (λ (f : FollowsIn xs key x).
        inr (λ z direction v. f z direction (λ k c e m. v k c e (h k (Contains-later k x xs c) e m))))
        (s.0 e),
    still_settled key new xs (λ k c. h k (Contains-later k x xs c)) s.1,
  )

  -- a key at which the list is settled, and its dictionary
  pub record Settles (xs : List ℕ) : Type 0 where
    pub key : List ℕ
    pub table : Table
    pub dictionary : IsRowDictionary space key table
    pub settled : Settled key xs

  -- ---- one row more
  module _ (x : ℕ) (xs : List ℕ) (row : Contains (rows_in space.labels) x) (b : Settles xs) where
    -- label c may go out for row x: it is not one of the list that is 0 at y, and the row is not 0 in its column
    abbrev MayGo : ℕ → Type 0
    MayGo c = (Contains xs c → IsTight c → ⊥) × (b.table.entry x c ≢ pos 0)

    abbrev Stays : ℕ → Type 0
    Stays c = (b.table.entry x c ≡ pos 0) ⊎ (Contains xs c × IsTight c)

    goes_or_stays : (c : ℕ) → MayGo c ⊎ Stays c
    goes_or_stays c = by (zero_or (b.table.entry x c)) (contains_or xs c) (zero_or (space.form c · y))
      where
        by : (b.table.entry x c ≡ pos 0) ⊎ (b.table.entry x c ≢ pos 0) →
            Contains xs c ⊎ (Contains xs c → ⊥) → IsTight c ⊎ (IsTight c → ⊥) → MayGo c ⊎ Stays c
        by (inl e) w v = inr (inl e)
        by (inr n) (inr w) v = inl (λ m _. w m, n)
        by (inr n) (inl w) (inr v) = inl (λ _ e. v e, n)
        by (inr n) (inl w) (inl v) = inr (inr (w, v))

    may_go_or_not : (c : ℕ) → MayGo c ⊎ (MayGo c → ⊥)
    may_go_or_not c =
        ⊎_elim (λ (g : MayGo c). inl g)
        (λ (s : Stays c). inr (λ g. ⊎_elim (λ (e : b.table.entry x c ≡ pos 0). g.1 e)
        (λ (w : Contains xs c × IsTight c). g.0 w.0 w.1) s))
        (goes_or_stays c)

    same_key : (IsTight x → Contains b.key x ⊎ FollowsIn xs b.key x) → Settles (x ∷ xs)
    same_key h = record { key = b.key; table = b.table; dictionary = b.dictionary; settled = (h, b.settled) }

    all_stay : ((c : ℕ) → Contains b.key c → MayGo c → ⊥) → FollowsIn xs b.key x
    all_stay n z direction v =
        row_at_direction space b.key b.table b.dictionary x row z direction
        (λ c m. ⊎_elim
        (λ (g : MayGo c). absurd (n c m g))
        (λ (s : Stays c). ⊎_elim (λ (e : b.table.entry x c ≡ pos 0). inl e)
        (λ (w : Contains xs c × IsTight c). inr (v c w.0 w.1 m)) s)
        (goes_or_stays c))

    exchanged : (Contains b.key x → ⊥) → (c : ℕ) → Contains b.key c → MayGo c → Settles (x ∷ xs)
    exchanged o c m g = with_table (exchanged_dictionary space b.key b.table b.dictionary c x m
        (record { row = row; outside = o }) g.1)
      where
        there : Exchanges b.key (exchanged_key b.key c x) x c
        there = exchanges b.key c x b.dictionary.ascending o

        with_table : (u : Table) × IsRowDictionary space (exchanged_key b.key c x) u → Settles (x ∷ xs)
        with_table (u, d) = record {
          key = exchanged_key b.key c x;
          table = u;
          dictionary = d;
          settled = (
            λ _. inl there.entering,
            still_settled b.key (exchanged_key b.key c x) xs
                (λ k q e w. there.kept k w (λ r. g.0 (subst (Contains xs) r q) (subst IsTight r e))) b.settled,
          );
        }

    one_more : Settles (x ∷ xs)
    one_more =
        ⊎_elim
        (λ (m : Contains b.key x). same_key (λ _. inl m))
        (λ (o : Contains b.key x → ⊥). ⊎_elim
        (λ (n : (c : ℕ) → Contains b.key c → MayGo c → ⊥). same_key (λ _. inr (all_stay n)))
        (λ (w : (c : ℕ) × IsFirst MayGo b.key c). exchanged o w.0 w.1.member w.1.has)
        (first_with MayGo b.key (λ c _. may_go_or_not c)))
        (contains_or b.key x)

  -- every list of rows is settled at some key
  pub settle : (root : List ℕ) (home : Table) → IsRowDictionary space root home → (xs : List ℕ) →
      ((k : ℕ) → Contains xs k → Contains (rows_in space.labels) k) → Settles xs
  settle root home h [] rows = record { key = root; table = home; dictionary = h; settled = tt }
  settle root home h (x ∷ xs) rows =
      one_more x xs (rows x (Contains-first x xs)) (settle root home h xs (λ k c. rows k (Contains-later k x xs c)))
