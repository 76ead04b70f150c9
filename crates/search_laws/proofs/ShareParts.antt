-- Parents make a tree; a share is what the cobasis shows itself and the shares of its children.
use Rattle.std.proofs.Common.{◌≡◌, ◌⊎◌, ◌↔◌, inl, inr, ◌+◌, ℕ, zero, suc, List, refl, sym, subst, arith}
use Rattle.poly_num.specs.Vectors.{Vector}
use Rattle.poly_model.specs.Spaces.{Space}
use Rattle.poly_model.specs.Dictionaries.{Table}
use Rattle.poly_model.specs.LexOrder.{rows_in}
use Rattle.poly_model.specs.Tree.{IsFeasibleRoot, IsAbove, IsUnder}
use Rattle.linear_laws.specs.Distinct.{AreDistinct}
use Rattle.search_laws.specs.Shares.{IsFeasibleKey, IsChild, IsFeasibleUnder, IsShownBy, InShare, IsTree, HasShare}
use Rattle.tree_laws.proofs.Chains.{under_the_root}
use Rattle.search_laws.proofs.Depths.{above_twice, child_above, above_feasible, last_step, either_above, no_cycle, not_under_child, children_meet}

pub under_twice : (space : Space) (root a b c : List ℕ) → IsUnder space root a b → IsUnder space root b c →
    IsUnder space root a c
under_twice space root a b c (m, x) (n, y) = (m + n, above_twice space root m n a b c x y)

pub child_under : (space : Space) (root key child : List ℕ) → IsChild space root key child →
    IsUnder space root child key
child_under space root key child c = (1, child_above space root key child c)

pub under_itself : (space : Space) (root key : List ℕ) → IsUnder space root key key
under_itself space root key = (zero, refl)

module _ (space : Space) (root : List ℕ) (home : Table) (h : IsFeasibleRoot space root home) where
  module _ (distinct : AreDistinct (rows_in space.labels)) where
    both_under : (a b : List ℕ) → IsFeasibleKey space root a → IsUnder space root a b → IsUnder space root b a → a ≡ b
    both_under a b f (zero, x) y = x
    both_under a b f (suc m, x) (n, y) =
        absurd (no_cycle space root home h distinct (m + n) a f
        (subst (λ k. IsAbove space root k a a) (one_more m n) (above_twice space root (suc m) n a b a x y)))
      where
        one_more : (m n : ℕ) → suc m + n ≡ suc (m + n)
        one_more m n = omega arith

    pub is_tree : IsTree space root
    is_tree = record {
      feasible = λ a b f u. above_feasible space root home h u.0 a b f u.1;
      through = under_twice space root;
      both = both_under;
      meet = λ one b c f u v. either_above space root home h distinct u.0 v.0 one b c f u.1 v.1;
      one_child = λ one key b c f p q u v.
          children_meet space root home h distinct key b c one u.0 v.0 f p q u.1 v.1;
      not_under_child = not_under_child space root home h distinct;
    }

  -- a feasible cobasis under a key is the key, or under a child
  pub own_or_under_child : (key one : List ℕ) → IsFeasibleKey space root one → IsUnder space root one key →
      (one ≡ key) ⊎ ((child : List ℕ) × IsChild space root key child × IsUnder space root one child)
  own_or_under_child key one f (zero, x) = inl x
  own_or_under_child key one f (suc n, x) =
      let w = last_step space root home h n one key f x in inr (w.0, w.2, (n, w.1))

  module _ (key : List ℕ) (f : IsFeasibleKey space root key) where
    under_parts : (one : List ℕ) → IsFeasibleUnder space root key one →
        (one ≡ key) ⊎ ((child : List ℕ) × IsChild space root key child × IsFeasibleUnder space root child one)
    under_parts one (g, u) = by (own_or_under_child key one g u)
      where
        by : (one ≡ key) ⊎ ((child : List ℕ) × IsChild space root key child × IsUnder space root one child) →
            (one ≡ key) ⊎ ((child : List ℕ) × IsChild space root key child × IsFeasibleUnder space root child one)
        by (inl e) = inl e
        by (inr (child, c, v)) = inr (child, c, (g, v))

    parts_under : (one : List ℕ) →
        (one ≡ key) ⊎ ((child : List ℕ) × IsChild space root key child × IsFeasibleUnder space root child one) →
        IsFeasibleUnder space root key one
    parts_under one (inl e) =
        subst (λ k. IsFeasibleUnder space root key k) (sym e) (f, under_itself space root key)
    parts_under one (inr (child, c, (g, u))) =
        (g, under_twice space root one child key u (child_under space root key child c))

    share_parts : (y : Vector) → InShare space root key y →
        IsShownBy space root key y ⊎ ((child : List ℕ) × IsChild space root key child × InShare space root child y)
    share_parts y (one, u, s) = by (own_or_under_child key one (s.0, s.1) u)
      where
        by : (one ≡ key) ⊎ ((child : List ℕ) × IsChild space root key child × IsUnder space root one child) →
            IsShownBy space root key y
            ⊎ ((child : List ℕ) × IsChild space root key child × InShare space root child y)
        by (inl e) = inl (subst (λ k. IsShownBy space root k y) e s)
        by (inr (child, c, v)) = inr (child, c, (one, v, s))

    parts_share : (y : Vector) →
        IsShownBy space root key y ⊎ ((child : List ℕ) × IsChild space root key child × InShare space root child y) →
        InShare space root key y
    parts_share y (inl s) = (key, under_itself space root key, s)
    parts_share y (inr (child, c, (one, u, s))) =
        (one, under_twice space root one child key u (child_under space root key child c), s)

    pub has_share : HasShare space root key
    has_share = record {
      under = λ one. (under_parts one, parts_under one);
      share = λ y. (share_parts y, parts_share y);
    }

  pub root_has_all : (y : Vector) → InShare space root root y ↔ ((key : List ℕ) × IsShownBy space root key y)
  root_has_all y =
      (λ w. (w.0, w.2), λ w. (w.0, under_the_root space root home h w.0 w.1.0 w.1.1, w.1))
