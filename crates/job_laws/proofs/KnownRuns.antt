-- Runs in the tree of the pyramid in docs/TREE.md, worked out by hand: one of four bases, and one under a depth budget. A
-- wrong order does not check.
use Rattle.std.proofs.Common.{◌≡◌, inl, inr, ⊎_elim, ℕ, ◌+◌, ◌*◌, List, [], ◌∷◌, refl, ap, subst, arith}
use Rattle.std.specs.Prelude.{◌==◌, if◌then◌else◌}
use Rattle.std.specs.List.{Contains}
use Rattle.linear_laws.proofs.Members.{Contains-nil, Contains-first, Contains-later, Contains-cons_cases}
use Rattle.work_core.specs.Orders.{visited, given_back, AreChildren, Meets}

-- ---- the tree: at which labels which children stand
abbrev root : List ℕ
root = 1 ∷ 2 ∷ 4 ∷ []

abbrev apex : List ℕ
apex = 2 ∷ 4 ∷ 5 ∷ []

abbrev apex_too : List ℕ
apex_too = 3 ∷ 4 ∷ 5 ∷ []

abbrev left : List ℕ
left = 1 ∷ 3 ∷ 4 ∷ []

abbrev front : List ℕ
front = 1 ∷ 2 ∷ 5 ∷ []

abbrev left_front : List ℕ
left_front = 1 ∷ 3 ∷ 5 ∷ []

abbrev digits_of : List ℕ → ℕ
digits_of [] = 0
digits_of (k ∷ key) = k + 10 * digits_of key

abbrev children_of : List ℕ → List (ℕ × List ℕ)
children_of key =
    if digits_of key == 421 then (1, apex) ∷ (2, left) ∷ (4, front) ∷ []
    else if digits_of key == 542 then (2, apex_too) ∷ []
    else if digits_of key == 521 then (2, left_front) ∷ []
    else []

abbrev At : List ℕ → ℕ → List ℕ → Type 0
At key s child = Contains (children_of key) (s, child)

children_of_root : AreChildren At root (apex ∷ left ∷ front ∷ [])
children_of_root = record {
  labels = 1 ∷ 2 ∷ 4 ∷ [];
  ascending = ((omega arith, (omega arith, tt)), ((omega arith, tt), (tt, tt)));
  at = (
    Contains-first (1, apex) ((2, left) ∷ (4, front) ∷ []),
    (
      Contains-later (2, left) (1, apex) ((2, left) ∷ (4, front) ∷ []) (Contains-first (2, left) ((4, front) ∷ [])),
      (
        Contains-later (4, front) (1, apex) ((2, left) ∷ (4, front) ∷ [])
            (Contains-later (4, front) (2, left) ((4, front) ∷ []) (Contains-first (4, front) [])),
        tt,
      ),
    ),
  );
  each = λ s child c.
      ⊎_elim
      (λ e. subst (Contains (1 ∷ 2 ∷ 4 ∷ [])) (ap (λ p. p.0) e) (Contains-first 1 (2 ∷ 4 ∷ [])))
      (λ d. ⊎_elim
      (λ e. subst (Contains (1 ∷ 2 ∷ 4 ∷ [])) (ap (λ p. p.0) e) (Contains-later 2 1 (2 ∷ 4 ∷ []) (Contains-first 2 (4 ∷ []))))
      (λ f. ⊎_elim
      (λ e. subst (Contains (1 ∷ 2 ∷ 4 ∷ [])) (ap (λ p. p.0) e)
      (Contains-later 4 1 (2 ∷ 4 ∷ []) (Contains-later 4 2 (4 ∷ []) (Contains-first 4 []))))
      (λ g. absurd (Contains-nil (s, child) g))
      (Contains-cons_cases (s, child) (4, front) [] f))
      (Contains-cons_cases (s, child) (2, left) ((4, front) ∷ []) d))
      (Contains-cons_cases (s, child) (1, apex) ((2, left) ∷ (4, front) ∷ []) c);
}

children_of_apex : AreChildren At apex (apex_too ∷ [])
children_of_apex = record {
  labels = 2 ∷ [];
  ascending = (tt, tt);
  at = (Contains-first (2, apex_too) [], tt);
  each = λ s child c.
      ⊎_elim
      (λ e. subst (Contains (2 ∷ [])) (ap (λ p. p.0) e) (Contains-first 2 []))
      (λ d. absurd (Contains-nil (s, child) d))
      (Contains-cons_cases (s, child) (2, apex_too) [] c);
}

no_children_of_apex_too : AreChildren At apex_too []
no_children_of_apex_too =
    record { labels = []; ascending = tt; at = tt; each = λ s child c. absurd (Contains-nil (s, child) c) }

no_children_of_left : AreChildren At left []
no_children_of_left =
    record { labels = []; ascending = tt; at = tt; each = λ s child c. absurd (Contains-nil (s, child) c) }

-- ---- four bases, at any depth: all under the apex comes before its brothers
four_bases :
    Meets At (λ key. ⊥) 4 0 (root ∷ [])
    (visited root ∷ visited apex ∷ visited apex_too ∷ visited left ∷ given_back front ∷ [])
four_bases = (
  [],
  refl,
  omega arith,
  (λ n. n),
  apex ∷ left ∷ front ∷ [],
  children_of_root,
  (
    left ∷ front ∷ [],
    refl,
    omega arith,
    (λ n. n),
    apex_too ∷ [],
    children_of_apex,
    (
      left ∷ front ∷ [],
      refl,
      omega arith,
      (λ n. n),
      [],
      no_children_of_apex_too,
      (
        front ∷ [],
        refl,
        omega arith,
        (λ n. n),
        [],
        no_children_of_left,
        ([], refl, inl (omega arith), refl),
      ),
    ),
  ),
)

-- ---- many bases, and all but the root is at the depth budget: the children are given back
one_deep :
    Meets At (λ key. key ≡ root → ⊥) 300 0 (root ∷ [])
    (visited root ∷ given_back apex ∷ given_back left ∷ given_back front ∷ [])
one_deep = (
  [],
  refl,
  omega arith,
  (λ n. n refl),
  apex ∷ left ∷ front ∷ [],
  children_of_root,
  (
    left ∷ front ∷ [],
    refl,
    inr (λ e. let d : 542 ≡ 421 = ap digits_of e in omega (arith, d)),
    (
      front ∷ [],
      refl,
      inr (λ e. let d : 431 ≡ 421 = ap digits_of e in omega (arith, d)),
      ([], refl, inr (λ e. let d : 521 ≡ 421 = ap digits_of e in omega (arith, d)), refl),
    ),
  ),
)
