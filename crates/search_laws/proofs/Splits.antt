-- A run that visits some cobases and gives the others back: each visit keeps the split, and takes one from what waits.
use Rattle.std.proofs.Common.{◌≡◌, ◌⊎◌, ◌↔◌, inl, inr, ⊎_elim, ◌+◌, ℕ, List, [], ◌∷◌, ◌++◌, refl, subst, arith}
use Rattle.std.specs.List.{Contains}
use Rattle.std.proofs.lemmas.List.Elements.{Contains-append_left, Contains-append_right, Contains-append_cases}
use Rattle.poly_model.specs.Spaces.{Space}
use Rattle.linear_laws.proofs.Members.{Contains-first, Contains-later, Contains-cons_cases}
use Rattle.search_laws.specs.Weights.{IsTotal, IsUnderSome, AreIncomparable, IsAntichain}
use Rattle.search_laws.specs.Splits.{IsSplit}
use Rattle.search_laws.proofs.OnceLists.{at_first_or_later, at_either}

-- ---- one member to the front
module _ {X : Type 0} (x : X) (front back : List X) where
  pub to_front_has : (y : X) → Contains (front ++ x ∷ back) y → Contains (x ∷ front ++ back) y
  to_front_has y c =
      ⊎_elim
      (λ (d : Contains front y). Contains-later y x (front ++ back) (Contains-append_left front back y d))
      (λ (d : Contains (x ∷ back) y). ⊎_elim
      (λ (e : x ≡ y). subst (λ z. Contains (x ∷ front ++ back) z) e (Contains-first x (front ++ back)))
      (λ (b : Contains back y). Contains-later y x (front ++ back) (Contains-append_right front back y b))
      (Contains-cons_cases y x back d))
      (Contains-append_cases front (x ∷ back) y c)

  pub from_front_has : (y : X) → Contains (x ∷ front ++ back) y → Contains (front ++ x ∷ back) y
  from_front_has y c =
      ⊎_elim
      (λ (e : x ≡ y). subst (λ z. Contains (front ++ x ∷ back) z) e
      (Contains-append_right front (x ∷ back) x (Contains-first x back)))
      (λ (d : Contains (front ++ back) y). ⊎_elim
      (λ (b : Contains front y). Contains-append_left front (x ∷ back) y b)
      (λ (b : Contains back y). Contains-append_right front (x ∷ back) y (Contains-later y x back b))
      (Contains-append_cases front back y d))
      (Contains-cons_cases y x (front ++ back) c)

module _ (space : Space) (root : List ℕ) where
  turned : (key other : List ℕ) → AreIncomparable space root key other → AreIncomparable space root other key
  turned key other a = record { above = a.below; below = a.above }

  apart_to_front : (one : List ℕ) (front back : List (List ℕ)) → IsAntichain space root (front ++ one ∷ back) →
      IsAntichain space root (one ∷ front ++ back)
  apart_to_front one [] back a = a
  apart_to_front one (k ∷ front) back a =
      let b = apart_to_front one front back a.1 in (
        at_first_or_later (λ o. AreIncomparable space root one o) k (front ++ back)
            (turned k one (a.0 one (Contains-append_right front (one ∷ back) one (Contains-first one back)))) b.0,
        (λ o c. a.0 o (from_front_has one front back o (Contains-later o one (front ++ back) c)), b.1),
      )

  apart_from_front : (one : List ℕ) (front back : List (List ℕ)) → IsAntichain space root (one ∷ front ++ back) →
      IsAntichain space root (front ++ one ∷ back)
  apart_from_front one [] back a = a
  apart_from_front one (k ∷ front) back a = (
    λ o c. at_first_or_later (λ o. AreIncomparable space root k o) one (front ++ back)
        (turned one k (a.0 k (Contains-first k (front ++ back)))) a.1.0 o (to_front_has one front back o c),
    apart_from_front one front back (λ o c. a.0 o (Contains-later o k (front ++ back) c), a.1.1),
  )

  -- the keys that wait, as another list of the same
  same_split : (key : List ℕ) (visited waiting others : List (List ℕ)) → IsSplit space root key visited waiting →
      ((k : List ℕ) → Contains waiting k → Contains others k) →
      ((k : List ℕ) → Contains others k → Contains waiting k) → IsAntichain space root others →
      IsSplit space root key visited others
  same_split key visited waiting others s there back a = record {
    once = s.once;
    only = s.only;
    each = λ one u. ⊎_elim (λ c. inl c) (λ w. inr (move waiting others there one w)) (s.each one u);
    not_both = λ one c u. s.not_both one c (move others waiting back one u);
    waits = λ one c. s.waits one (back one c);
    apart = a;
  }
    where
      move : (ks ls : List (List ℕ)) → ((k : List ℕ) → Contains ks k → Contains ls k) → (one : List ℕ) →
          IsUnderSome space root ks one → IsUnderSome space root ls one
      move ks ls h one u =
          record { feasible = u.feasible; key = u.key; member = h u.key u.member; under = u.under }

  pub to_front : (key one : List ℕ) (visited front back : List (List ℕ)) →
      IsSplit space root key visited (front ++ one ∷ back) ↔ IsSplit space root key visited (one ∷ front ++ back)
  to_front key one visited front back = (
    λ s. same_split key visited (front ++ one ∷ back) (one ∷ front ++ back) s (to_front_has one front back)
        (from_front_has one front back) (apart_to_front one front back s.apart),
    λ s. same_split key visited (one ∷ front ++ back) (front ++ one ∷ back) s (from_front_has one front back)
        (to_front_has one front back) (apart_from_front one front back s.apart),
  )

  pub apart-append : (ks ls : List (List ℕ)) → IsAntichain space root ks → IsAntichain space root ls →
      ((k o : List ℕ) → Contains ks k → Contains ls o → AreIncomparable space root k o) →
      IsAntichain space root (ks ++ ls)
  apart-append [] ls a b h = b
  apart-append (k ∷ ks) ls a b h = (
    at_either (λ o. AreIncomparable space root k o) ks ls a.0 (λ o c. h k o (Contains-first k ks) c),
    apart-append ks ls a.1 b (λ j o c d. h j o (Contains-later j k ks c) d),
  )

  pub under_some_join : (ks ls : List (List ℕ)) (one : List ℕ) →
      IsUnderSome space root ks one ⊎ IsUnderSome space root ls one → IsUnderSome space root (ks ++ ls) one
  under_some_join ks ls one (inl u) = record {
    feasible = u.feasible;
    key = u.key;
    member = Contains-append_left ks ls u.key u.member;
    under = u.under;
  }
  under_some_join ks ls one (inr u) = record {
    feasible = u.feasible;
    key = u.key;
    member = Contains-append_right ks ls u.key u.member;
    under = u.under;
  }

  pub under_some_part : (ks ls : List (List ℕ)) (one : List ℕ) → IsUnderSome space root (ks ++ ls) one →
      IsUnderSome space root ks one ⊎ IsUnderSome space root ls one
  under_some_part ks ls one u =
      ⊎_elim
      (λ (c : Contains ks u.key).
      inl (record { feasible = u.feasible; key = u.key; member = c; under = u.under }))
      (λ (c : Contains ls u.key).
      inr (record { feasible = u.feasible; key = u.key; member = c; under = u.under }))
      (Contains-append_cases ks ls u.key u.member)

  -- ---- totals
  pub total-parts : (ks ls : List (List ℕ)) (w : ℕ) → IsTotal space root (ks ++ ls) w →
      (u : ℕ) × (v : ℕ) × IsTotal space root ks u × IsTotal space root ls v × (w ≡ u + v)
  total-parts [] ls w t = (0, w, refl, t, nothing w)
    where
      nothing : (w : ℕ) → w ≡ 0 + w
      nothing w = omega arith
  total-parts (k ∷ ks) ls w (a, b, p, q, e) = by (total-parts ks ls b q)
    where
      sum : (u v : ℕ) → b ≡ u + v → w ≡ (a + u) + v
      sum u v g = omega (arith, e)

      by : (u : ℕ) × (v : ℕ) × IsTotal space root ks u × IsTotal space root ls v × (b ≡ u + v) →
          (u : ℕ) × (v : ℕ) × IsTotal space root (k ∷ ks) u × IsTotal space root ls v × (w ≡ u + v)
      by (u, v, r, s, g) = (a + u, v, (a, u, p, r, refl), s, sum u v g)
