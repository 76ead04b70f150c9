-- Chains of parents from lexicographically feasible cobases: joined, their last step; they do not part, nor turn back.
use Rattle.std.proofs.Common.{◌≡◌, ◌⊎◌, inl, inr, ◌+◌, ℕ, zero, suc, List, refl, sym, subst, arith}
use Rattle.poly_model.specs.Spaces.{Space}
use Rattle.poly_model.specs.Dictionaries.{Table, IsDictionary}
use Rattle.poly_model.specs.LexOrder.{rows_in}
use Rattle.poly_model.specs.Tree.{IsFeasibleRoot, IsParent, IsAbove, IsUnder}
use Rattle.linear_laws.specs.Distinct.{AreDistinct}
use Rattle.search_laws.specs.Shares.{IsFeasibleKey, IsChild}
use Rattle.tree_laws.proofs.AnyTable.{parent_too}
use Rattle.tree_laws.proofs.Parents.{one_parent}
use Rattle.tree_laws.proofs.Chains.{other_table, parent_feasible, one_depth, under_the_root}

-- one chain behind the other
pub above_twice : (space : Space) (root : List ℕ) (m n : ℕ) (a b c : List ℕ) → IsAbove space root m a b →
    IsAbove space root n b c → IsAbove space root (m + n) a c
above_twice space root zero n a b c x y =
    subst (λ k. IsAbove space root k a c) (nothing n) (subst (λ k. IsAbove space root n k c) (sym x) y)
  where
    nothing : (n : ℕ) → n ≡ zero + n
    nothing n = omega arith
above_twice space root (suc m) n a b c (t, d, parent, p, x) y =
    subst (λ k. IsAbove space root k a c) (one_more m n) (t, d, parent, p, above_twice space root m n parent b c x y)
  where
    one_more : (m n : ℕ) → suc (m + n) ≡ suc m + n
    one_more m n = omega arith

-- a child is one step under its parent
pub child_above : (space : Space) (root key child : List ℕ) → IsChild space root key child →
    IsAbove space root 1 child key
child_above space root key child (t, f, p) = (t, f.dictionary.dictionary, key, p, refl)

module _ (space : Space) (root : List ℕ) (home : Table) (h : IsFeasibleRoot space root home) where
  -- a parent by any table is feasible, and by the table of the feasible child it is the same
  by_own_table : (key parent : List ℕ) (f : IsFeasibleKey space root key) (u : Table) → IsDictionary space key u →
      IsParent space.labels root key u parent → IsParent space.labels root key f.0 parent
  by_own_table key parent f u d p =
      parent_too space root key u f.0
      (other_table space root home h.dictionary key f.0 u f.1.dictionary d) f.1.dictionary parent p

  pub parent_key : (key parent : List ℕ) → IsFeasibleKey space root key → (u : Table) → IsDictionary space key u →
      IsParent space.labels root key u parent → IsFeasibleKey space root parent
  parent_key key parent f u d p =
      parent_feasible space root home h.dictionary key parent f.0 f.1 (by_own_table key parent f u d p)

  pub above_feasible : (n : ℕ) (a b : List ℕ) → IsFeasibleKey space root a → IsAbove space root n a b →
      IsFeasibleKey space root b
  above_feasible zero a b f x = subst (λ k. IsFeasibleKey space root k) x f
  above_feasible (suc n) a b f (u, d, parent, p, x) =
      above_feasible n parent b (parent_key a parent f u d p) x

  -- the last step of a chain is from a child
  pub last_step : (n : ℕ) (a b : List ℕ) → IsFeasibleKey space root a → IsAbove space root (suc n) a b →
      (child : List ℕ) × IsAbove space root n a child × IsChild space root b child
  last_step zero a b f (u, d, parent, p, x) =
      (a, refl, (f.0, f.1, subst (λ k. IsParent space.labels root a f.0 k) x (by_own_table a parent f u d p)))
  last_step (suc n) a b f (u, d, parent, p, x) =
      let w = last_step n parent b (parent_key a parent f u d p) x in (w.0, (u, d, parent, p, w.1), w.2)

  module _ (distinct : AreDistinct (rows_in space.labels)) where
    same_parent : (a b c : List ℕ) (f : IsFeasibleKey space root a) (u v : Table) → IsDictionary space a u →
        IsDictionary space a v → IsParent space.labels root a u b → IsParent space.labels root a v c → b ≡ c
    same_parent a b c f u v d e p q =
        one_parent space root a b c home f.0 f.0 distinct h.dictionary f.1.dictionary f.1.dictionary
        (by_own_table a b f u d p) (by_own_table a c f v e q)

    -- of two on one chain, one is above the other
    pub either_above : (m n : ℕ) (a b c : List ℕ) → IsFeasibleKey space root a → IsAbove space root m a b →
        IsAbove space root n a c → IsUnder space root b c ⊎ IsUnder space root c b
    either_above zero n a b c f x y = inl (n, subst (λ k. IsAbove space root n k c) x y)
    either_above (suc m) zero a b c f x y = inr (suc m, subst (λ k. IsAbove space root (suc m) k b) y x)
    either_above (suc m) (suc n) a b c f (u, d, k, p, x) (v, e, l, q, y) =
        either_above m n k b c (parent_key a k f u d p) x
        (subst (λ j. IsAbove space root n j c) (same_parent a l k f v u e d q p) y)

    -- two chains of one length end at one cobasis
    pub one_end : (n : ℕ) (a b c : List ℕ) → IsFeasibleKey space root a → IsAbove space root n a b →
        IsAbove space root n a c → b ≡ c
    one_end zero a b c f x y = subst (λ k. k ≡ c) x y
    one_end (suc n) a b c f (u, d, k, p, x) (v, e, l, q, y) =
        one_end n k b c (parent_key a k f u d p) x
        (subst (λ j. IsAbove space root n j c) (same_parent a l k f v u e d q p) y)

    -- two chains between the same cobases have one length
    pub one_length : (m n : ℕ) (a b : List ℕ) → IsFeasibleKey space root a → IsAbove space root m a b →
        IsAbove space root n a b → m ≡ n
    one_length m n a b f x y =
        let g = above_feasible m a b f x in
        let u = under_the_root space root home h b g.0 g.1 in
        let e = one_depth space root home h.dictionary distinct (m + u.0) (n + u.0) a f.0 f.1
        (above_twice space root m u.0 a b root x u.1) (above_twice space root n u.0 a b root y u.1) in
        omega (arith, e)

    pub no_cycle : (n : ℕ) (a : List ℕ) → IsFeasibleKey space root a → IsAbove space root (suc n) a a → ⊥
    no_cycle n a f x = let e = one_length (suc n) 0 a a f x refl in omega (arith, e)

    -- no child is above its parent
    pub not_under_child : (key child : List ℕ) → IsChild space root key child → IsUnder space root key child → ⊥
    not_under_child key child c (n, x) =
        no_cycle n child (c.0, c.1)
        (c.0, c.1.dictionary.dictionary, key, c.2, x)

    -- two children of one cobasis that are above one cobasis are one
    pub children_meet : (key b c one : List ℕ) (m n : ℕ) → IsFeasibleKey space root one →
        IsChild space root key b → IsChild space root key c → IsAbove space root m one b →
        IsAbove space root n one c → b ≡ c
    children_meet key b c one m n f p q x y =
        let e = one_length (m + 1) (n + 1) one key f
        (above_twice space root m 1 one b key x (child_above space root key b p))
        (above_twice space root n 1 one c key y (child_above space root key c q)) in
        one_end m one b c f x (subst (λ k. IsAbove space root k one c) (less m n e) y)
      where
        less : (m n : ℕ) → m + 1 ≡ n + 1 → n ≡ m
        less m n e = omega arith
