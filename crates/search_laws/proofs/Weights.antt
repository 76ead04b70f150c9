-- The weight of a lexicographically feasible cobasis: one more than the total of its children; it has one, by induction
-- over the cobases under it.
use Rattle.std.proofs.Common.{◌≡◌, ◌≢◌, ◌⊎◌, inl, inr, ⊎_elim, ◌+◌, ℕ, suc, List, [], ◌∷◌, length, refl, sym, ap, subst, ◌∙◌, arith}
use Rattle.std.specs.List.{Contains}
use Rattle.poly_model.specs.Spaces.{Space}
use Rattle.poly_model.specs.Dictionaries.{Table}
use Rattle.poly_model.specs.LexOrder.{rows_in}
use Rattle.poly_model.specs.Tree.{IsFeasibleRoot, IsAbove, IsUnder}
use Rattle.linear_laws.specs.Distinct.{AreDistinct}
use Rattle.linear_laws.proofs.Members.{Contains-first, Contains-later}
use Rattle.search_laws.specs.Shares.{ListsAll, IsFeasibleKey, IsChild, IsFeasibleUnder}
use Rattle.search_laws.specs.Weights.{IsWeight, IsTotal, IsUnderSome, HasWeight}
use Rattle.tree_laws.proofs.Numbers.{key_row}
use Rattle.tree_laws.proofs.Sublists.{ascending_parts, contains_ascending}
use Rattle.tree_laws.proofs.Descents.{by_all_below}
use Rattle.tree_laws.proofs.Chains.{State, under_the_root}
use Rattle.search_laws.proofs.Depths.{above_twice, child_above, no_cycle, not_under_child}
use Rattle.search_laws.proofs.OnceLists.{at_first_or_later, one_count}
use Rattle.search_laws.proofs.Children.{children}
use Rattle.search_laws.proofs.ShareParts.{under_twice, child_under, under_itself, own_or_under_child}
use Rattle.search_laws.proofs.Gathered.{Gathers, gather, children_apart}

module _ (space : Space) (root : List ℕ) where
  pub one_weight : (key : List ℕ) (v w : ℕ) → IsWeight space root key v → IsWeight space root key w → v ≡ w
  one_weight key v w (ks, l, e) (js, m, f) =
      sym e ∙ one_count ks js l.once m.once (λ k c. m.each k (l.only k c)) (λ k c. l.each k (m.only k c)) ∙ f

  pub one_total : (keys : List (List ℕ)) (v w : ℕ) → IsTotal space root keys v → IsTotal space root keys w → v ≡ w
  one_total [] v w a b = a ∙ sym b
  one_total (key ∷ keys) v w (a, b, p, q, e) (c, d, r, s, f) =
      let g = one_weight key a c p r in let h = one_total keys b d q s in omega (arith, e, f, g, h)

-- ---- the weight of a key from its children
module _ (space : Space) (root : List ℕ) (home : Table) (h : IsFeasibleRoot space root home)
    (distinct : AreDistinct (rows_in space.labels)) where
  module _ (key : List ℕ) (f : IsFeasibleKey space root key) (cs : List (List ℕ))
      (l : ListsAll (IsChild space root key) cs) where
    under_key : (one : List ℕ) → IsUnderSome space root cs one → IsFeasibleUnder space root key one
    under_key one u = (
      u.feasible,
      under_twice space root one u.key key u.under
          (child_under space root key u.key (l.only u.key u.member)),
    )

    pub key_or_under_some : (one : List ℕ) → IsFeasibleUnder space root key one →
        (one ≡ key) ⊎ IsUnderSome space root cs one
    key_or_under_some one u =
        ⊎_elim
        (λ (e : one ≡ key). inl e)
        (λ (w : (child : List ℕ) × IsChild space root key child × IsUnder space root one child).
        inr (record { feasible = u.0; key = w.0; member = l.each w.0 w.1; under = w.2 }))
        (own_or_under_child space root home h key one u.0 u.1)

    pub not_itself_under : IsUnderSome space root cs key → ⊥
    not_itself_under u = not_under_child space root home h distinct key u.key (l.only u.key u.member) u.under

    pub weight_of_children : (w : ℕ) → IsTotal space root cs w → IsWeight space root key (suc w)
    weight_of_children w t =
        by (gather space root home h distinct cs
        (children_apart space root home h distinct key cs l.once l.only) w t)
      where
        by : Gathers space root cs w → IsWeight space root key (suc w)
        by g = (
          key ∷ g.ones,
          record {
            once = (λ c. not_itself_under (g.lists.only key c), g.lists.once);
            only = at_first_or_later (λ one. IsFeasibleUnder space root key one) key g.ones
                (f, under_itself space root key) (λ one c. under_key one (g.lists.only one c));
            each = λ one u. ⊎_elim
                (λ (e : one ≡ key). subst (λ k. Contains (key ∷ g.ones) k) (sym e) (Contains-first key g.ones))
                (λ (v : IsUnderSome space root cs one). Contains-later one key g.ones (g.lists.each one v))
                (key_or_under_some one u);
          },
          ap suc g.size,
        )

  -- ---- there is a weight
  some_total : (keys : List (List ℕ)) →
      ((k : List ℕ) → Contains keys k → (w : ℕ) × IsWeight space root k w) → (w : ℕ) × IsTotal space root keys w
  some_total [] a = (0, refl)
  some_total (key ∷ keys) a =
      let u = a key (Contains-first key keys) in
      let v = some_total keys (λ k c. a k (Contains-later k key keys c)) in
      (u.0 + v.0, (u.0, v.0, u.1, v.1, refl))

  abbrev IsBelow : State space root → State space root → Type 0
  IsBelow e d = (n : ℕ) × IsAbove space root (suc n) e.key d.key

  below_twice : (e f g : State space root) → IsBelow e f → IsBelow f g → IsBelow e g
  below_twice e f g (m, x) (n, y) = (
    m + suc n,
    subst (λ k. IsAbove space root k e.key g.key) (one_more m n)
        (above_twice space root (suc m) (suc n) e.key f.key g.key x y),
  )
    where
      one_more : (m n : ℕ) → suc m + suc n ≡ suc (m + suc n)
      one_more m n = omega arith

  below_is_other : (e f : State space root) → IsBelow e f → e.key ≢ f.key
  below_is_other e f (n, x) q =
      no_cycle space root home h distinct n e.key (e.table, e.feasible)
      (subst (λ k. IsAbove space root (suc n) e.key k) (sym q) x)

  weigh : (d : State space root) → ((e : State space root) → IsBelow e d → (w : ℕ) × IsWeight space root e.key w) →
      (w : ℕ) × IsWeight space root d.key w
  weigh d below =
      let c = children space root home h distinct d.key d.table d.feasible in
      let t = some_total c.0 (λ k m. let p = c.1.only k m in
      below (record { key = k; table = p.0; feasible = p.1 }) (0, child_above space root d.key k p)) in
      (suc t.0, weight_of_children d.key (d.table, d.feasible) c.0 c.1 t.0 t.1)

  pub some_weight : (key : List ℕ) → IsFeasibleKey space root key → (w : ℕ) × IsWeight space root key w
  some_weight key f =
      by_all_below (State space root) (List ℕ) (λ d. d.key) IsBelow below_twice below_is_other
      (ascending_parts (rows_in space.labels))
      (λ d. contains_ascending (rows_in space.labels) d.key d.feasible.dictionary.ascending
      (key_row space d.key d.table d.feasible.dictionary))
      (λ d. (w : ℕ) × IsWeight space root d.key w) weigh (record { key = key; table = f.0; feasible = f.1 })

  pub some_total_of : (keys : List (List ℕ)) → ((k : List ℕ) → Contains keys k → IsFeasibleKey space root k) →
      (w : ℕ) × IsTotal space root keys w
  some_total_of keys a = some_total keys (λ k c. some_weight k (a k c))

  pub has_weight : (key : List ℕ) → IsFeasibleKey space root key → HasWeight space root key
  has_weight key f = record {
    some = some_weight key f;
    one = one_weight space root key;
    children = λ cs w l t. weight_of_children key f cs l w t;
  }

-- under the root are all
pub root_weighs_all : (space : Space) (root : List ℕ) (home : Table) → IsFeasibleRoot space root home → (w : ℕ) →
    IsWeight space root root w → (ks : List (List ℕ)) × ListsAll (IsFeasibleKey space root) ks × (length ks ≡ w)
root_weighs_all space root home h w (ks, l, e) = (
  ks,
  record {
    once = l.once;
    only = λ k c. (l.only k c).0;
    each = λ k f. l.each k (f, under_the_root space root home h k f.0 f.1);
  },
  e,
)
