-- The cobases under one of some keys that are apart: one list, as long as the keys weigh together. Children are apart.
use Rattle.std.proofs.Common.{◌≡◌, ◌⊎◌, inl, inr, ⊎_elim, ◌+◌, ℕ, zero, suc, List, [], ◌∷◌, ◌++◌, length, length-append, sym, subst, ◌∙◌, arith}
use Rattle.std.specs.List.{Contains}
use Rattle.std.proofs.lemmas.List.Elements.{Contains-append_left, Contains-append_right, Contains-append_cases}
use Rattle.poly_model.specs.Spaces.{Space}
use Rattle.poly_model.specs.Dictionaries.{Table}
use Rattle.poly_model.specs.LexOrder.{rows_in}
use Rattle.poly_model.specs.Tree.{IsFeasibleRoot, IsUnder}
use Rattle.linear_laws.specs.Distinct.{AreDistinct}
use Rattle.linear_laws.proofs.Members.{Contains-nil, Contains-first, Contains-later, Contains-cons_cases}
use Rattle.linear_laws.proofs.Distinct.{distinct_append}
use Rattle.search_laws.specs.Shares.{ListsAll, IsFeasibleKey, IsChild, IsFeasibleUnder, IsTree}
use Rattle.search_laws.specs.Weights.{IsTotal, IsUnderSome, AreIncomparable, IsAntichain}
use Rattle.search_laws.proofs.Depths.{above_twice, child_above, one_length}
use Rattle.search_laws.proofs.ShareParts.{is_tree}

module _ (space : Space) (root : List ℕ) where
  pub under_some_first : (key : List ℕ) (keys : List (List ℕ)) (one : List ℕ) → IsFeasibleUnder space root key one →
      IsUnderSome space root (key ∷ keys) one
  under_some_first key keys one u =
      record { feasible = u.0; key = key; member = Contains-first key keys; under = u.1 }

  pub under_some_later : (key : List ℕ) (keys : List (List ℕ)) (one : List ℕ) → IsUnderSome space root keys one →
      IsUnderSome space root (key ∷ keys) one
  under_some_later key keys one u =
      record { feasible = u.feasible; key = u.key; member = Contains-later u.key key keys u.member; under = u.under }

  pub under_some_cases : (key : List ℕ) (keys : List (List ℕ)) (one : List ℕ) →
      IsUnderSome space root (key ∷ keys) one →
      IsFeasibleUnder space root key one ⊎ IsUnderSome space root keys one
  under_some_cases key keys one u =
      ⊎_elim
      (λ (e : key ≡ u.key). inl (u.feasible, subst (λ k. IsUnder space root one k) (sym e) u.under))
      (λ (m : Contains keys u.key).
      inr (record { feasible = u.feasible; key = u.key; member = m; under = u.under }))
      (Contains-cons_cases u.key key keys u.member)

-- ---- the cobases under keys
-- those under one of some keys, each once, so many of them
pub record Gathers (space : Space) (root : List ℕ) (keys : List (List ℕ)) (w : ℕ) : Type 0 where
  pub ones : List (List ℕ)
  pub lists : ListsAll (IsUnderSome space root keys) ones
  pub size : length ones ≡ w

module _ (space : Space) (root : List ℕ) (home : Table) (h : IsFeasibleRoot space root home)
    (distinct : AreDistinct (rows_in space.labels)) where
  tree : IsTree space root
  tree = is_tree space root home h distinct

  -- a cobasis is not under both of two keys that are apart
  pub not_under_both : (one b c : List ℕ) → IsFeasibleKey space root one → AreIncomparable space root b c →
      IsUnder space root one b → IsUnder space root one c → ⊥
  not_under_both one b c f a u v = ⊎_elim a.above a.below (tree.meet one b c f u v)

  pub gather : (keys : List (List ℕ)) → IsAntichain space root keys → (w : ℕ) → IsTotal space root keys w →
      Gathers space root keys w
  gather [] a w t = record {
    ones = [];
    lists = record {
      once = tt;
      only = λ one c. absurd (Contains-nil one c);
      each = λ one u. absurd (Contains-nil u.key u.member);
    };
    size = sym t;
  }
  gather (key ∷ keys) a w (u, v, (ks, l, e), rest, sum) = by (gather keys a.1 v rest)
    where
      add : (x y w : ℕ) → x ≡ u → y ≡ v → w ≡ u + v → x + y ≡ w
      add x y w e f g = omega arith

      by : Gathers space root keys v → Gathers space root (key ∷ keys) w
      by g = record {
        ones = ks ++ g.ones;
        lists = record {
          once = distinct_append ks g.ones l.once g.lists.once
              (λ one c d. let p = l.only one c in let q = g.lists.only one d in
              not_under_both one key q.key p.0 (a.0 q.key q.member) p.1 q.under);
          only = λ one c. ⊎_elim (λ d. under_some_first space root key keys one (l.only one d))
              (λ d. under_some_later space root key keys one (g.lists.only one d))
              (Contains-append_cases ks g.ones one c);
          each = λ one p. ⊎_elim (λ q. Contains-append_left ks g.ones one (l.each one q))
              (λ q. Contains-append_right ks g.ones one (g.lists.each one q))
              (under_some_cases space root key keys one p);
        };
        size = length-append ks g.ones ∙ add (length ks) (length g.ones) w e g.size sum;
      }

  -- ---- the children of a key
  -- a child under a child is that child
  pub child_under_child : (key b c : List ℕ) → IsChild space root key b → IsChild space root key c →
      IsUnder space root b c → b ≡ c
  child_under_child key b c p q (zero, x) = x
  child_under_child key b c p q (suc n, x) =
      let e = one_length space root home h distinct (suc n + 1) 1 b key (p.0, p.1)
      (above_twice space root (suc n) 1 b c key x (child_above space root key c q))
      (child_above space root key b p) in
      absurd (omega (arith, e))

  pub children_apart : (key : List ℕ) (cs : List (List ℕ)) → AreDistinct cs →
      ((c : List ℕ) → Contains cs c → IsChild space root key c) → IsAntichain space root cs
  children_apart key [] n a = tt
  children_apart key (c ∷ cs) n a = (
    λ b m. let p = a c (Contains-first c cs) in let q = a b (Contains-later b c cs m) in record {
      above = λ u. n.0 (subst (λ k. Contains cs k) (sym (child_under_child key c b p q u)) m);
      below = λ u. n.0 (subst (λ k. Contains cs k) (child_under_child key b c q p u) m);
    },
    children_apart key cs n.1 (λ b m. a b (Contains-later b c cs m)),
  )
