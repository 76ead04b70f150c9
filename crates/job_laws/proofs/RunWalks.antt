-- A run is a walk: it visits each key under those that wait, or gives back one over it, and not both.
use Rattle.std.proofs.Common.{◌≡◌, ◌⊎◌, inl, inr, ⊎_elim, ℕ, suc, ◌<◌, List, [], ◌∷◌, ◌++◌, sym, subst, arith}
use Rattle.std.specs.List.{Contains}
use Rattle.std.proofs.lemmas.List.Elements.{Contains-append_cases, Contains-append_left, Contains-append_right}
use Rattle.poly_num.specs.Vectors.{Vector}
use Rattle.poly_model.specs.Keys.{IsAscending}
use Rattle.linear_laws.proofs.Members.{Contains-nil, Contains-first, Contains-later, Contains-cons_cases, all_at}
use Rattle.search_laws.proofs.OnceLists.{at_either}
use Rattle.work_core.specs.Laws.{HasShares}
use Rattle.work_core.specs.Meanings.{Meaning, StandsUnder, IsKeyBelow}
use Rattle.work_core.specs.Orders.{Met, visited, given_back, keys_visited, keys_given_back, AreAt, AreChildren, Meets}
use Rattle.work_core.specs.Walks.{IsWalk}
use Rattle.work_core.proofs.WalkLemmas.{under_itself, walk_none, walk_visit, walk_give, walk_of, walk_then}
use Rattle.job_laws.specs.Branches.{HasBranches}
use Rattle.job_laws.proofs.MetLists.{child_of_label, label_of_child}

-- nothing is shown: the rows of a run come later
abbrev pub ShowsNothing : List ℕ → Vector → Type 0
ShowsNothing key y = ⊥

module _ (work : Meaning) (shares : HasShares work) (b : HasBranches work) where
  abbrev At : List ℕ → ℕ → List ℕ → Type 0
  At = work.is_child_at

  -- a key under one of these
  abbrev pub IsBelowSome : List (List ℕ) → List ℕ → Type 0
  IsBelowSome keys one = (k : List ℕ) × Contains keys k × IsKeyBelow work k one

  -- of two of these, wherever they stand, no key lies under both
  abbrev AreApart : List (List ℕ) → Type 0
  AreApart [] = Unit {0}
  AreApart (k ∷ keys) = ((one : List ℕ) → IsKeyBelow work k one → IsBelowSome keys one → ⊥) × AreApart keys

  abbrev AreKeys : List (List ℕ) → Type 0
  AreKeys keys = (k : List ℕ) → Contains keys k → work.is_key k

  itself : (k : List ℕ) → StandsUnder work k k
  itself = under_itself work shares

  below_append : (ks ls : List (List ℕ)) (one : List ℕ) → IsBelowSome (ks ++ ls) one → IsBelowSome ks one ⊎ IsBelowSome ls one
  below_append ks ls one (k, c, u) =
      ⊎_elim (λ d. inl (k, d, u)) (λ d. inr (k, d, u)) (Contains-append_cases ks ls k c)

  apart_append : (ks ls : List (List ℕ)) → AreApart ks → AreApart ls →
      ((one : List ℕ) → IsBelowSome ks one → IsBelowSome ls one → ⊥) → AreApart (ks ++ ls)
  apart_append [] ls a c n = c
  apart_append (k ∷ ks) ls a c n = (
    λ one u v. ⊎_elim (λ x. a.0 one u x) (λ x. n one (k, Contains-first k ks, u) x) (below_append ks ls one v),
    apart_append ks ls a.1 c (λ one x y. n one (x.0, Contains-later x.0 k ks x.1, x.2) y),
  )

  -- ---- the children of a key
  children_apart : (key labels : List ℕ) (cs : List (List ℕ)) → IsAscending labels → AreAt At key labels cs → AreApart cs
  children_apart key [] [] up a = tt
  children_apart key [] (d ∷ cs) up a = absurd a
  children_apart key (s ∷ labels) [] up a = absurd a
  children_apart key (s ∷ labels) (d ∷ cs) up (h, a) = (
    λ one u (k, m, v).
        let w = label_of_child At key labels cs a k m in
        let e : d ≡ k = b.one_child key s w.0 d k one u.0 h w.2 u.1 v.1 in
        let q : s ≡ w.0 = b.one_label key s w.0 k (subst (λ c. At key s c) e h) w.2 in
        let l = all_at (λ r. s < r) labels up.0 w.0 w.1 in
        omega (arith, q, l),
    children_apart key labels cs up.1 a,
  )

  module _ (key : List ℕ) (is : work.is_key key) (cs : List (List ℕ)) (c : AreChildren At key cs) where
    children_keys : AreKeys cs
    children_keys k m = let w = label_of_child At key c.labels cs c.at k m in b.child_key key w.0 k is w.2

    below_child : (one : List ℕ) → IsBelowSome cs one → IsKeyBelow work key one
    below_child one (k, m, u) =
        let w = label_of_child At key c.labels cs c.at k m in
        (u.0, shares.through one k key u.0 u.1 (1, b.child_under key w.0 k w.2))

    not_below_child : IsBelowSome cs key → ⊥
    not_below_child (k, m, u) =
        let w = label_of_child At key c.labels cs c.at k m in b.not_itself key w.0 k is w.2 u.1

    -- a key under this one is this, or lies under a child
    key_or_below_child : (one : List ℕ) → IsKeyBelow work key one → (one ≡ key) ⊎ IsBelowSome cs one
    key_or_below_child one u =
        ⊎_elim (λ (e : one ≡ key). inl e)
        (λ (p : (s : ℕ) × (d : List ℕ) × At key s d × StandsUnder work one d).
        let w = child_of_label At key c.labels cs c.at p.0 (c.each p.0 p.1 p.2) in
        let e : w.0 ≡ p.1 = b.one_at key p.0 w.0 p.1 w.2 p.2 in
        inr (w.0, w.1, (u.0, subst (λ j. StandsUnder work one j) (sym e) p.3)))
        (b.parts key one is u)

  -- ---- the keys that wait after a visit
  module _ (k : List ℕ) (rest cs : List (List ℕ)) (keys : AreKeys (k ∷ rest)) (apart : AreApart (k ∷ rest))
      (c : AreChildren At k cs) where
    is : work.is_key k
    is = keys k (Contains-first k rest)

    next_keys : AreKeys (cs ++ rest)
    next_keys = at_either work.is_key cs rest (children_keys k is cs c) (λ j m. keys j (Contains-later j k rest m))

    next_apart : AreApart (cs ++ rest)
    next_apart = apart_append cs rest (children_apart k c.labels cs c.ascending c.at) apart.1
        (λ one u v. apart.0 one (below_child k is cs c one u) v)

    not_below : (one : List ℕ) → one ≡ k → IsBelowSome (cs ++ rest) one → ⊥
    not_below one e u =
        ⊎_elim (λ v. not_below_child k is cs c (subst (IsBelowSome cs) e v))
        (λ v. apart.0 k (is, itself k) (subst (IsBelowSome rest) e v)) (below_append cs rest one u)

    all_keys : (one : List ℕ) → (one ≡ k) ⊎ IsBelowSome (cs ++ rest) one → work.is_key one
    all_keys one (inl e) = subst (λ j. work.is_key j) (sym e) is
    all_keys one (inr u) = u.2.0

    before_visit : (one : List ℕ) → (one ≡ k) ⊎ IsBelowSome (cs ++ rest) one → IsBelowSome (k ∷ rest) one
    before_visit one (inl e) = (
      k,
      Contains-first k rest,
      (subst (λ j. work.is_key j) (sym e) is, subst (λ j. StandsUnder work j k) (sym e) (itself k)),
    )
    before_visit one (inr u) =
        ⊎_elim (λ v. (k, Contains-first k rest, below_child k is cs c one v))
        (λ (v : IsBelowSome rest one). (v.0, Contains-later v.0 k rest v.1, v.2)) (below_append cs rest one u)

    after_visit : (one : List ℕ) → IsBelowSome (k ∷ rest) one → (one ≡ k) ⊎ IsBelowSome (cs ++ rest) one
    after_visit one (j, m, u) =
        ⊎_elim
        (λ (e : k ≡ j). ⊎_elim (λ (q : one ≡ k). inl q)
        (λ (v : IsBelowSome cs one). inr (v.0, Contains-append_left cs rest v.0 v.1, v.2))
        (key_or_below_child k is cs c one (subst (λ i. IsKeyBelow work i one) (sym e) u)))
        (λ (n : Contains rest j). inr (j, Contains-append_right cs rest j n, u)) (Contains-cons_cases j k rest m)

  -- ---- a run is a walk
  module _ (Deep : List ℕ → Type 0) (most : ℕ) where
    pub walk_of_run : (n : ℕ) (ws : List (List ℕ)) (met : List Met) → AreKeys ws → AreApart ws → Meets At Deep most n ws met →
        IsWalk work ShowsNothing (IsBelowSome ws) (keys_visited met) (keys_given_back met) []
    walk_of_run n ws [] keys apart e =
        walk_none work ShowsNothing (IsBelowSome ws)
        (λ one u. Contains-nil u.0 (subst (λ ks. Contains ks u.0) e u.1))
    walk_of_run n ws (visited k ∷ met) keys apart (rest, e, few, high, cs, c, r) =
        subst (λ ks. IsWalk work ShowsNothing (IsBelowSome ks) (k ∷ keys_visited met) (keys_given_back met) []) (sym e)
        (walk_of work ShowsNothing (λ one. (one ≡ k) ⊎ IsBelowSome (cs ++ rest) one) (IsBelowSome (k ∷ rest))
        (k ∷ keys_visited met) (keys_given_back met) []
        (λ one. (before_visit k rest cs keys' apart' c one, after_visit k rest cs keys' apart' c one))
        (walk_then work ShowsNothing itself (λ a d y x z. absurd x) (λ one. one ≡ k) (IsBelowSome (cs ++ rest))
        (not_below k rest cs keys' apart' c) (k ∷ []) (keys_visited met) [] (keys_given_back met) [] []
        (walk_visit work ShowsNothing k []
        (record { once = tt; only = λ y m. absurd (Contains-nil y m); each = λ y x. absurd x }))
        (walk_of_run (suc n) (cs ++ rest) met (next_keys k rest cs keys' apart' c) (next_apart k rest cs keys' apart' c) r)
        (all_keys k rest cs keys' apart' c)))
      where
        keys' : AreKeys (k ∷ rest)
        keys' = subst (λ ks. AreKeys ks) e keys

        apart' : AreApart (k ∷ rest)
        apart' = subst (λ ks. AreApart ks) e apart
    walk_of_run n ws (given_back k ∷ met) keys apart (rest, e, stop, r) =
        subst (λ ks. IsWalk work ShowsNothing (IsBelowSome ks) (keys_visited met) (k ∷ keys_given_back met) []) (sym e)
        (walk_of work ShowsNothing (λ one. IsKeyBelow work k one ⊎ IsBelowSome rest one) (IsBelowSome (k ∷ rest))
        (keys_visited met) (k ∷ keys_given_back met) [] (λ one. (to one, from one))
        (walk_then work ShowsNothing itself (λ a d y x z. absurd x) (IsKeyBelow work k) (IsBelowSome rest) apart'.0 []
        (keys_visited met) (k ∷ []) (keys_given_back met) [] []
        (walk_give work ShowsNothing k (keys' k (Contains-first k rest)))
        (walk_of_run n rest met (λ j m. keys' j (Contains-later j k rest m)) apart'.1 r)
        (λ one. ⊎_elim (λ (u : IsKeyBelow work k one). u.0) (λ (u : IsBelowSome rest one). u.2.0))))
      where
        keys' : AreKeys (k ∷ rest)
        keys' = subst (λ ks. AreKeys ks) e keys

        apart' : AreApart (k ∷ rest)
        apart' = subst (λ ks. AreApart ks) e apart

        to : (one : List ℕ) → IsKeyBelow work k one ⊎ IsBelowSome rest one → IsBelowSome (k ∷ rest) one
        to one (inl u) = (k, Contains-first k rest, u)
        to one (inr u) = (u.0, Contains-later u.0 k rest u.1, u.2)

        from : (one : List ℕ) → IsBelowSome (k ∷ rest) one → IsKeyBelow work k one ⊎ IsBelowSome rest one
        from one (j, m, u) =
            ⊎_elim (λ (q : k ≡ j). inl (subst (λ i. IsKeyBelow work i one) (sym q) u))
            (λ (m : Contains rest j). inr (j, m, u)) (Contains-cons_cases j k rest m)
