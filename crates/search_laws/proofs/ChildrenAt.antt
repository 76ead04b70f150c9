-- At a label a cobasis has one child, and a child has one label.
use Rattle.std.proofs.Common.{◌≡◌, ◌≢◌, ⊎_elim, ℕ, List}
use Rattle.std.proofs.lemmas.Bool.{cases_eq}
use Rattle.poly_model.specs.Spaces.{Space}
use Rattle.poly_model.specs.Dictionaries.{Table}
use Rattle.poly_model.specs.LexOrder.{rows_in}
use Rattle.poly_model.specs.Tree.{IsFeasibleRoot, IsLexFeasible, IsNeighbour}
use Rattle.linear_laws.specs.Distinct.{AreDistinct}
use Rattle.dictionary_laws.specs.Keys.{Exchanges}
use Rattle.tree_laws.proofs.ExchangedKeys.{leaving_outside}
use Rattle.tree_laws.proofs.Neighbours.{neighbour_exchanges, one_neighbour}
use Rattle.tree_laws.proofs.AnyTable.{neighbour_too}
use Rattle.tree_laws.proofs.Chains.{parent_feasible}
use Rattle.search_laws.specs.Shares.{IsFeasibleKey, IsChild, IsChildAt}

module _ (space : Space) (root : List ℕ) (home : Table) (h : IsFeasibleRoot space root home)
    (distinct : AreDistinct (rows_in space.labels)) where
  -- by the table of a lexicographically feasible cobasis
  module _ (key : List ℕ) (t : Table) (f : IsLexFeasible space root key t) where
    abbrev At : ℕ → List ℕ → Type 0
    At s one = IsChildAt space root key s one

    pub neighbour_here : (s : ℕ) (one : List ℕ) → At s one → IsNeighbour space.labels root key t s one
    neighbour_here s one c = neighbour_too space root key c.table t c.dictionary f.dictionary s one c.neighbour

    pub one_child : (s : ℕ) (a b : List ℕ) → At s a → At s b → a ≡ b
    one_child s a b c d =
        one_neighbour space root key t home h.dictionary f.dictionary s a b (neighbour_here s a c) (neighbour_here s b d)

    pub one_column : (s r : ℕ) (one : List ℕ) → At s one → At r one → s ≡ r
    one_column s r one c d =
        ⊎_elim
        (λ (e : s ≡ r). e)
        (λ (n : s ≢ r). absurd (leaving_outside key one a.r s x a.column a.leaves.row.outside (y.kept s a.column n)))
        (cases_eq s r)
      where
        a : IsNeighbour space.labels root key t s one
        a = neighbour_here s one c

        b : IsNeighbour space.labels root key t r one
        b = neighbour_here r one d

        x : Exchanges key one a.r s
        x = neighbour_exchanges space root key t s one f.dictionary a

        y : Exchanges key one b.r r
        y = neighbour_exchanges space root key t r one f.dictionary b

  -- a cobasis with a child is lexicographically feasible, so it needs no table
  feasible_over : (key child : List ℕ) → IsChild space root key child → IsFeasibleKey space root key
  feasible_over key child (t, f, p) = parent_feasible space root home h.dictionary child key t f p

  pub one_child_at : (key : List ℕ) (s : ℕ) (a b : List ℕ) → IsChildAt space root key s a → IsChildAt space root key s b → a ≡ b
  one_child_at key s a b x y = let f = feasible_over key a x.child in one_child key f.0 f.1 s a b x y

  pub one_label_of : (key one : List ℕ) (s r : ℕ) → IsChildAt space root key s one → IsChildAt space root key r one → s ≡ r
  one_label_of key one s r x y = let f = feasible_over key one x.child in one_column key f.0 f.1 s r one x y
