-- The children of a lexicographically feasible cobasis: in each column there is one, or none, and this can be decided;
-- so they are a list.
use Rattle.std.proofs.Common.{◌≡◌, ◌⊎◌, inl, inr, ⊎_elim, ℕ, pos, ◌≤ℤ◌, ◌<ℤ◌, List, [], ◌∷◌, refl, subst, arith}
use Rattle.std.specs.List.{Contains}
use Rattle.poly_num.proofs.Ring.{lin}
use Rattle.poly_model.specs.Spaces.{Space}
use Rattle.poly_model.specs.Dictionaries.{Table}
use Rattle.poly_model.specs.LexOrder.{rows_in}
use Rattle.poly_model.specs.Tree.{IsRowDictionary, IsRowOutside, IsFeasibleRoot, IsLexFeasible, Leaves, IsNeighbour, IsParent, exchanged_key}
use Rattle.linear_laws.specs.Distinct.{AreDistinct}
use Rattle.linear_laws.proofs.Members.{Contains-nil, Contains-first, Contains-later}
use Rattle.tree_laws.specs.Parents.{IsRootOrChild}
use Rattle.search_laws.specs.Shares.{ListsAll, IsChild, HasChildren}
use Rattle.tree_laws.proofs.Least.{none_or_leaves}
use Rattle.tree_laws.proofs.Neighbours.{neighbour_dictionary, neighbour_feasible, one_neighbour}
use Rattle.tree_laws.proofs.Back.{child_is_neighbour}
use Rattle.tree_laws.proofs.AnyTable.{parent_too}
use Rattle.tree_laws.proofs.Parents.{root_or_child, one_parent}
use Rattle.search_laws.proofs.OnceLists.{one_key_or_not, one_of_or_not, at_first_or_later}

module _ (space : Space) (root : List ℕ) (home : Table) (h : IsFeasibleRoot space root home)
    (distinct : AreDistinct (rows_in space.labels)) where
  -- whether a key is the parent of a feasible cobasis
  parent_or_not : (child key : List ℕ) (u : Table) → IsLexFeasible space root child u →
      IsParent space.labels root child u key ⊎ (IsParent space.labels root child u key → ⊥)
  parent_or_not child key u g = by (root_or_child space root child home u h g)
    where
      by : IsRootOrChild space root child u →
          IsParent space.labels root child u key ⊎ (IsParent space.labels root child u key → ⊥)
      by (inl r) = inr (r.1 key)
      by (inr r) =
          ⊎_elim
          (λ (e : r.1 ≡ key). inl (subst (λ k. IsParent space.labels root child u k) e r.2))
          (λ (n : r.1 ≡ key → ⊥). inr (λ p. n (one_parent space root child r.1 key home u u distinct h.dictionary
          g.dictionary g.dictionary r.2 p)))
          (one_key_or_not r.1 key)

  module _ (key : List ℕ) (t : Table) (f : IsLexFeasible space root key t) where
    pub child_column : (child : List ℕ) → IsChild space root key child →
        (s : ℕ) × IsNeighbour space.labels root key t s child
    child_column child (u, g, p) =
        (p.neighbour.r, (child_is_neighbour space root child key u t g f p).0)

    abbrev HasChildAt : ℕ → Type 0
    HasChildAt s = (child : List ℕ) × IsChild space root key child × IsNeighbour space.labels root key t s child

    abbrev HasNoChildAt : ℕ → Type 0
    HasNoChildAt s = (child : List ℕ) → IsChild space root key child → IsNeighbour space.labels root key t s child → ⊥

    pub child_or_none : (s : ℕ) → Contains key s → HasChildAt s ⊎ HasNoChildAt s
    child_or_none s c = by (none_or_leaves space root key t s)
      where
        not_less : (i : ℕ) → pos 0 ≤ℤ t.entry i s → t.entry i s <ℤ pos 0 → ⊥
        not_less i a b = omega (arith, lin)

        with_row : (r : ℕ) → Leaves space.labels root key t s r → HasChildAt s ⊎ HasNoChildAt s
        with_row r l = by_parent (parent_or_not new key w.0 g)
          where
            new : List ℕ
            new = exchanged_key key s r

            n : IsNeighbour space.labels root key t s new
            n = record { column = c; r = r; leaves = l; exchange = refl }

            w : (u : Table) × IsRowDictionary space new u
            w = neighbour_dictionary space root key t s new f.dictionary n

            g : IsLexFeasible space root new w.0
            g = neighbour_feasible space root key t s new home w.0 h.dictionary f n w.1

            by_parent : IsParent space.labels root new w.0 key ⊎ (IsParent space.labels root new w.0 key → ⊥) →
                HasChildAt s ⊎ HasNoChildAt s
            by_parent (inl p) = inl (new, (w.0, g, p), n)
            by_parent (inr m) = inr (λ child k j. none child k
                (one_neighbour space root key t home h.dictionary f.dictionary s child new j n))
              where
                none : (child : List ℕ) → IsChild space root key child → child ≡ new → ⊥
                none child (u, e, p) q =
                    m (parent_too space root new u w.0 (subst (λ k. IsLexFeasible space root k u) q e).dictionary
                    w.1 key (subst (λ k. IsParent space.labels root k u key) q p))

        by : ((i : ℕ) → IsRowOutside space.labels key i → pos 0 ≤ℤ t.entry i s)
            ⊎ ((r : ℕ) × Leaves space.labels root key t s r) →
            HasChildAt s ⊎ HasNoChildAt s
        by (inl none) = inr (λ child k n. not_less n.r (none n.r n.leaves.row) n.leaves.negative)
        by (inr w) = with_row w.0 w.1

    -- the children in these columns
    record Found (columns : List ℕ) : Type 0 where
      children : List (List ℕ)
      once : AreDistinct children
      only : (child : List ℕ) → Contains children child → IsChild space root key child
      each : (child : List ℕ) (s : ℕ) → Contains columns s → IsChild space root key child →
          IsNeighbour space.labels root key t s child → Contains children child

    at_column : (child : List ℕ) (s : ℕ) (columns : List ℕ) (P : Type 0) →
        (IsNeighbour space.labels root key t s child → P) →
        ((r : ℕ) → Contains columns r → IsNeighbour space.labels root key t r child → P) →
        (r : ℕ) → Contains (s ∷ columns) r → IsNeighbour space.labels root key t r child → P
    at_column child s columns P a b =
        at_first_or_later (λ r. IsNeighbour space.labels root key t r child → P) s columns a b

    found_none : (s : ℕ) (columns : List ℕ) → HasNoChildAt s → Found columns → Found (s ∷ columns)
    found_none s columns none w = record {
      children = w.children;
      once = w.once;
      only = w.only;
      each = λ child r c k. at_column child s columns (Contains w.children child) (λ n. absurd (none child k n))
          (λ r c n. w.each child r c k n) r c;
    }

    found_child : (s : ℕ) (columns : List ℕ) (b : List ℕ) → IsChild space root key b →
        IsNeighbour space.labels root key t s b → Found columns → Found (s ∷ columns)
    found_child s columns b k n w = by (one_of_or_not w.children b)
      where
        one : (child : List ℕ) → IsNeighbour space.labels root key t s child → b ≡ child
        one child m = one_neighbour space root key t home h.dictionary f.dictionary s b child n m

        by : Contains w.children b ⊎ (Contains w.children b → ⊥) → Found (s ∷ columns)
        by (inl c) = record {
          children = w.children;
          once = w.once;
          only = w.only;
          each = λ child r d j. at_column child s columns (Contains w.children child)
              (λ m. subst (λ x. Contains w.children x) (one child m) c) (λ r d m. w.each child r d j m) r d;
        }
        by (inr none) = record {
          children = b ∷ w.children;
          once = (none, w.once);
          only = at_first_or_later (λ x. IsChild space root key x) b w.children k w.only;
          each = λ child r d j. at_column child s columns (Contains (b ∷ w.children) child)
              (λ m. subst (λ x. Contains (b ∷ w.children) x) (one child m) (Contains-first b w.children))
              (λ r d m. Contains-later child b w.children (w.each child r d j m)) r d;
        }

    find : (columns : List ℕ) → ((s : ℕ) → Contains columns s → Contains key s) → Found columns
    find [] all = record {
      children = [];
      once = tt;
      only = λ child c. absurd (Contains-nil child c);
      each = λ child s c k n. absurd (Contains-nil s c);
    }
    find (s ∷ columns) all =
        let rest = find columns (λ r c. all r (Contains-later r s columns c)) in
        ⊎_elim
        (λ (w : HasChildAt s). found_child s columns w.0 w.1 w.2 rest)
        (λ (n : HasNoChildAt s). found_none s columns n rest)
        (child_or_none s (all s (Contains-first s columns)))

    pub children : (cs : List (List ℕ)) × ListsAll (IsChild space root key) cs
    children =
        let w = find key (λ s c. c) in (
          w.children,
          record {
            once = w.once;
            only = w.only;
            each = λ child k. let n = child_column child k in w.each child n.0 n.1.column k n.1;
          },
        )

    pub has_children : HasChildren space root key t
    has_children = record { listed = children; column = child_column; decided = child_or_none }
