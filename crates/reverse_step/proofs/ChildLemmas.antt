-- When the neighbour in a column is a child, and columns without one.
use Rattle.std.proofs.Common.{◌≡◌, ◌⊎◌, ⊎_elim, ℕ, ◌+◌, ◌≤◌, ◌<◌, true, false, true≢false, get_or, List, length, refl, sym, subst, arith}
use Rattle.poly_num.proofs.Ring.{lin}
use Rattle.poly_model.specs.LexOrder.{rows_in}
use Rattle.poly_model.specs.Spaces.{Space}
use Rattle.poly_model.specs.Dictionaries.{Table}
use Rattle.poly_model.specs.Tree.{IsRowOutside, Leaves, IsNeighbour, exchanged_key}
use Rattle.std.specs.List.{Contains}
use Rattle.dictionary_laws.proofs.KeyExchange.{ascending_distinct}
use Rattle.tree_laws.proofs.Neighbours.{one_neighbour}
use Rattle.search_laws.specs.ChildTest.{LeadsUp}
use Rattle.search_laws.specs.Shares.{IsChild}
use Rattle.search_laws.proofs.ChildTest.{child_by_test}
use Rattle.search_laws.proofs.ChildrenAt.{neighbour_here}
use Rattle.dictionary.specs.Views.{Dictionary, table_of}
use Rattle.lex_pivot.specs.Ratios.{NoneLeaves}
use Rattle.lex_pivot.specs.Children.{DecidesChild}
use Rattle.reverse_step.specs.Walks.{Stands}
use Rattle.search_laws.specs.Shares.{IsChildAt}
use Rattle.reverse_step.specs.Children.{HasNoChildAt, LeadsToChild, NoneBetween}

module _ (d : Dictionary) (root : List ℕ) (s : ℕ) where
  here : (space : Space) (home : Table) → Stands space home root d → (child : List ℕ) →
      IsChildAt space root d.key s child → IsNeighbour space.labels root d.key (table_of d) s child
  here space home st child x =
      neighbour_here space root home st.feasible_root (ascending_distinct (rows_in space.labels) st.ascending) d.key
      (table_of d) st.feasible s child x

  -- no row leaves
  pub none_leaves : NoneLeaves d s → HasNoChildAt root d s
  none_leaves n space home st child x =
      let m = here space home st child x in
      let a = n m.r (subst (λ ls. IsRowOutside ls d.key m.r) (sym st.dictionary.labels) m.leaves.row) in
      let b = m.leaves.negative in
      omega (arith, lin)

  -- the greatest row of the root that is not 0 in the column is not positive there
  pub leads_nowhere : (LeadsUp d.labels root (table_of d) s → ⊥) → HasNoChildAt root d s
  leads_nowhere n space home st child x =
      let m = here space home st child x in
      let law = child_by_test space root d.key home (table_of d)
      (ascending_distinct (rows_in space.labels) st.ascending) st.feasible_root.dictionary st.feasible s m.r m.column
      m.leaves in
      n (subst (λ ls. LeadsUp ls root (table_of d) s) (sym st.dictionary.labels)
      (law.0 (subst (IsChild space root d.key) m.exchange x.child)).lead)

  module _ (r : ℕ) (c : Contains d.key s) (l : Leaves d.labels root d.key (table_of d) s r) where
    pub leads_to_child : DecidesChild d root s r true → LeadsToChild root d s r
    leads_to_child decided = record {
      column = c;
      leaves = l;
      child = λ space home st.
          (decided space home st.dictionary.labels st.feasible_root.dictionary st.feasible).0 refl;
    }

    pub not_a_child : DecidesChild d root s r false → HasNoChildAt root d s
    not_a_child decided space home st child x =
        true≢false (sym ((decided space home st.dictionary.labels st.feasible_root.dictionary st.feasible).1
        (subst (IsChild space root d.key) same x.child)))
      where
        leaves : Leaves space.labels root d.key (table_of d) s r
        leaves = subst (λ ls. Leaves ls root d.key (table_of d) s r) st.dictionary.labels l

        same : child ≡ exchanged_key d.key s r
        same =
            one_neighbour space root d.key (table_of d) home st.feasible_root.dictionary st.feasible.dictionary s child
            (exchanged_key d.key s r) (here space home st child x)
            (record { column = c; r = r; leaves = leaves; exchange = refl })

-- one column more has none
pub none_more : (root : List ℕ) (d : Dictionary) (a j s : ℕ) → s ≡ get_or d.key j 0 → HasNoChildAt root d s →
    NoneBetween root d a j → NoneBetween root d a (j + 1)
none_more root d a j s e none before i l m =
    ⊎_elim
    (λ (lt : i < j). before i l lt)
    (λ (g : i ≡ j). subst (λ k. HasNoChildAt root d (get_or d.key k 0)) (sym g) (subst (HasNoChildAt root d) e none))
    (below i j m)
  where
    below : (i j : ℕ) → i < j + 1 → (i < j) ⊎ (i ≡ j)
    below i j h = grind arith

pub none_to_end : (root : List ℕ) (d : Dictionary) (a j : ℕ) → length d.key ≤ j → NoneBetween root d a j →
    NoneBetween root d a (length d.key)
none_to_end root d a j l n i k m = n i k (omega arith)
