-- The least number so far that is asked for, and one number more.
use Rattle.std.proofs.Common.{◌≡◌, ◌⊎◌, inl, inr, ⊎_elim, ℕ, zero, suc, ◌<◌, List, [], ◌∷◌, ◌++◌, length, take, get_or, sym, subst, arith, Option, Some, None}
use Rattle.std.specs.List.{Contains}
use Rattle.std.proofs.lemmas.List.Elements.{Contains-append_left, Contains-append_right, Contains-append_cases, Contains-get_or}
use Rattle.poly_model.specs.Keys.{IsAscending}
use Rattle.linear_laws.proofs.Members.{all_at, Contains-nil, Contains-first, Contains-cons_cases}
use Rattle.phase_one.specs.SoFar.{IsLeastAsked, NoneOf, IsLeastSoFar}

-- the numbers in front of a place of an ascending list are less
pub taken_less : (xs : List ℕ) → IsAscending xs → (n q : ℕ) → n < length xs → q ≡ get_or xs n 0 → (k : ℕ) →
    Contains (take n xs) k → k < q
taken_less [] up n q l e k c = absurd (omega arith)
taken_less (x ∷ xs) up zero q l e k c = absurd (Contains-nil k c)
taken_less (x ∷ xs) up (suc n) q l e k c =
    ⊎_elim
    (λ (f : x ≡ k).
    let below : x < get_or xs n 0 = all_at (λ y. x < y) xs up.0 (get_or xs n 0) (Contains-get_or xs n 0 (omega arith)) in
    omega (arith, e, f))
    (λ (m : Contains (take n xs) k). taken_less xs up.1 n q (omega arith) e k m)
    (Contains-cons_cases k x (take n xs) c)

module _ (IsAsked : ℕ → Type 0) (AtMost : ℕ → ℕ → Type 0) (xs : List ℕ) (x : ℕ) where
  split : (i : ℕ) → Contains (xs ++ x ∷ []) i → Contains xs i ⊎ (x ≡ i)
  split i c =
      ⊎_elim
      (λ (m : Contains xs i). inl m)
      (λ (m : Contains (x ∷ []) i).
      ⊎_elim (λ (e : x ≡ i). inr e) (λ (n : Contains [] i). absurd (Contains-nil i n)) (Contains-cons_cases i x [] m))
      (Contains-append_cases xs (x ∷ []) i c)

  none_more : NoneOf IsAsked xs → (IsAsked x → ⊥) → NoneOf IsAsked (xs ++ x ∷ [])
  none_more h n i c a =
      ⊎_elim (λ (m : Contains xs i). h i m a) (λ (e : x ≡ i). n (subst IsAsked (sym e) a)) (split i c)

  -- it is not asked for
  pub kept : (least : Option ℕ) → IsLeastSoFar IsAsked AtMost xs least → (IsAsked x → ⊥) →
      IsLeastSoFar IsAsked AtMost (xs ++ x ∷ []) least
  kept None h n = none_more h n
  kept (Some r) h n = record {
    member = Contains-append_left xs (x ∷ []) r h.member;
    asked = h.asked;
    least = λ i c a.
        ⊎_elim (λ (m : Contains xs i). h.least i m a) (λ (e : x ≡ i). absurd (n (subst IsAsked (sym e) a))) (split i c);
  }

  last : Contains (xs ++ x ∷ []) x
  last = Contains-append_right xs (x ∷ []) x (Contains-first x [])

  -- it is the first one
  pub first_asked : NoneOf IsAsked xs → IsAsked x → AtMost x x → IsLeastAsked IsAsked AtMost (xs ++ x ∷ []) x
  first_asked h a same = record {
    member = last;
    asked = a;
    least = λ i c b.
        ⊎_elim (λ (m : Contains xs i). absurd (h i m b)) (λ (e : x ≡ i). subst (AtMost x) e same) (split i c);
  }

  module _ (r : ℕ) (h : IsLeastAsked IsAsked AtMost xs r) where
    -- it is less than the least so far
    pub replaced : IsAsked x → AtMost x x → ((i : ℕ) → AtMost r i → AtMost x i) →
        IsLeastAsked IsAsked AtMost (xs ++ x ∷ []) x
    replaced a same through = record {
      member = last;
      asked = a;
      least = λ i c b.
          ⊎_elim (λ (m : Contains xs i). through i (h.least i m b)) (λ (e : x ≡ i). subst (AtMost x) e same) (split i c);
    }

    -- or not
    pub stays : AtMost r x → IsLeastAsked IsAsked AtMost (xs ++ x ∷ []) r
    stays more = record {
      member = Contains-append_left xs (x ∷ []) r h.member;
      asked = h.asked;
      least = λ i c b.
          ⊎_elim (λ (m : Contains xs i). h.least i m b) (λ (e : x ≡ i). subst (AtMost r) e more) (split i c);
    }
