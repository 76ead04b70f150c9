-- The descent in the lists of given rows ends, and has no more steps than there are sets of rows. So the chain of
-- parents from each lexicographically feasible cobasis ends, at the root, and always at one depth.
use Rattle.std.proofs.Common.{◌≡◌, ◌⊎◌, inl, inr, ℕ, zero, suc, ◌^◌, List, length, refl, sym, ap, subst}
use Rattle.std.specs.List.{Contains}
use Rattle.poly_model.specs.Spaces.{Space}
use Rattle.poly_model.specs.Dictionaries.{Table, IsDictionary}
use Rattle.poly_model.specs.LexOrder.{IsPositive, rows_in, within, backwards}
use Rattle.poly_model.specs.Tree.{IsRowDictionary, IsFeasibleRoot, IsLexFeasible, IsParent, IsAbove, IsUnder}
use Rattle.linear_laws.specs.Distinct.{AreDistinct}
use Rattle.tree_laws.specs.Parents.{IsRootOrChild}
use Rattle.tree_laws.proofs.Numbers.{key_row}
use Rattle.tree_laws.proofs.Sublists.{ascending_parts, contains_ascending, length-ascending_parts}
use Rattle.tree_laws.proofs.Descents.{by_descent_within}
use Rattle.tree_laws.proofs.OrderLemmas.{backwards_within_only}
use Rattle.tree_laws.proofs.Neighbours.{neighbour_dictionary, neighbour_feasible}
use Rattle.tree_laws.proofs.AnyTable.{parent_too}
use Rattle.tree_laws.proofs.Falls.{level_gaps, falls_twice, falls_elsewhere, parent_falls}
use Rattle.tree_laws.proofs.Parents.{no_parent, root_or_child, one_parent}

-- a lexicographically feasible cobasis with its dictionary
pub record State (space : Space) (root : List ℕ) : Type 0 where
  pub key : List ℕ
  pub table : Table
  pub feasible : IsLexFeasible space root key table

-- ---- along any rows
module _ (space : Space) (root qs : List ℕ) where
  -- e stands below d
  abbrev pub IsLower : State space root → State space root → Type 0
  IsLower e d = IsPositive (level_gaps space root d.key d.table e.key e.table qs)

  -- what holds of a cobasis within a number of steps, or follows for it from one below it within one step less, holds of
  -- all within as many steps as there are sets of rows
  pub by_falls_within : ((q : ℕ) → Contains qs q → Contains (rows_in space.labels) q) →
      (P : ℕ → State space root → Type 0) →
      ((m : ℕ) (d : State space root) → P (suc m) d ⊎ ((e : State space root) × IsLower e d × (P m e → P (suc m) d))) →
      (d : State space root) → P (2 ^ length (rows_in space.labels)) d
  by_falls_within rows P step =
      by_descent_within (State space root) (List ℕ) (λ d. d.key) IsLower
      (λ e f g. falls_twice space root g.key f.key e.key g.table f.table e.table g.feasible.dictionary
      f.feasible.dictionary e.feasible.dictionary qs)
      (λ e f. falls_elsewhere space root f.key e.key f.table e.table f.feasible.dictionary e.feasible.dictionary
      qs rows)
      (ascending_parts (rows_in space.labels))
      (λ d. contains_ascending (rows_in space.labels) d.key d.feasible.dictionary.ascending
      (key_row space d.key d.table d.feasible.dictionary))
      P step (2 ^ length (rows_in space.labels)) (length-ascending_parts (rows_in space.labels))

  -- what holds of a cobasis, or follows for it from one below it, holds of all
  pub by_falls : ((q : ℕ) → Contains qs q → Contains (rows_in space.labels) q) → (P : State space root → Type 0) →
      ((d : State space root) → P d ⊎ ((e : State space root) × IsLower e d × (P e → P d))) →
      (d : State space root) → P d
  by_falls rows P step = by_falls_within rows (λ n d. P d) (λ m d. step d)

-- ---- parents
module _ (space : Space) (root : List ℕ) (home : Table) (h : IsRowDictionary space root home) where
  -- a parent has a dictionary, and is feasible
  pub parent_feasible : (key parent : List ℕ) (t : Table) → IsLexFeasible space root key t →
      IsParent space.labels root key t parent → (u : Table) × IsLexFeasible space root parent u
  parent_feasible key parent t f p =
      let w = neighbour_dictionary space root key t p.s parent f.dictionary p.neighbour in
      (w.0, neighbour_feasible space root key t p.s parent home w.0 h f p.neighbour w.1)

  -- ---- chains to the root have one length, by whichever tables their steps are
  pub other_table : (key : List ℕ) (t u : Table) → IsRowDictionary space key t → IsDictionary space key u →
      IsRowDictionary space key u
  other_table key t u d e = record { points = d.points; ascending = d.ascending; rows = d.rows; dictionary = e }

  -- no step leads on from the root
  root_ends : (key : List ℕ) (t : Table) → IsLexFeasible space root key t → (n : ℕ) → key ≡ root →
      IsAbove space root (suc n) key root → ⊥
  root_ends key t f n e (u, d, parent, p, a) =
      no_parent space root key u (other_table key t u f.dictionary d) (λ q m. subst (λ l. Contains l q) (sym e) m)
      parent p

  module _ (distinct : AreDistinct (rows_in space.labels)) where
    pub one_depth : (m n : ℕ) (key : List ℕ) (t : Table) → IsLexFeasible space root key t →
        IsAbove space root m key root → IsAbove space root n key root → m ≡ n
    one_depth zero zero key t f a b = refl
    one_depth zero (suc n) key t f a b = absurd (root_ends key t f n a b)
    one_depth (suc m) zero key t f a b = absurd (root_ends key t f m b a)
    one_depth (suc m) (suc n) key t f (u, d, parent, p, a) (v, e, other, q, b) =
        let x = other_table key t u f.dictionary d in
        let y = other_table key t v f.dictionary e in
        let same = one_parent space root key parent other home u v distinct h x y p q in
        let w = parent_feasible key parent t f (parent_too space root key u t x f.dictionary parent p) in
        ap suc (one_depth m n parent w.0 w.1 a (subst (λ l. IsAbove space root n l root) (sym same) b))

-- ---- under the root
module _ (space : Space) (root : List ℕ) (home : Table) (h : IsFeasibleRoot space root home) where
  -- by descent: the root is under itself, and a child is where its parent is
  pub is_under : (d : State space root) → IsUnder space root d.key root
  is_under =
      by_falls space root (backwards (within space.labels root)) (λ q c. (backwards_within_only space root q c).0)
      (λ d. IsUnder space root d.key root)
      (λ d. by d (root_or_child space root d.key home d.table h d.feasible))
    where
      by : (d : State space root) → IsRootOrChild space root d.key d.table →
          IsUnder space root d.key root
          ⊎ ((e : State space root)
          × IsLower space root (backwards (within space.labels root)) e d
          × (IsUnder space root e.key root → IsUnder space root d.key root))
      by d (inl r) = inl (zero, r.0)
      by d (inr r) =
          let w = parent_feasible space root home h.dictionary d.key r.1 d.table d.feasible r.2 in
          inr (
            record { key = r.1; table = w.0; feasible = w.1 },
            parent_falls space root d.key r.1 d.table w.0 d.feasible.dictionary w.1 r.2,
            λ u. (suc u.0, (d.table, d.feasible.dictionary.dictionary, r.1, r.2, u.1)),
          )

  pub under_the_root : (key : List ℕ) (t : Table) → IsLexFeasible space root key t → IsUnder space root key root
  under_the_root key t f = is_under (record { key = key; table = t; feasible = f })
