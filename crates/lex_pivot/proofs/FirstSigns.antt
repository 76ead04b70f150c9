-- The sign of the first number that is not 0: of a list, and along labels in ascending or descending order.
use Rattle.std.proofs.Common.{◌≡◌, ◌≢◌, ◌⊎◌, ◌↔◌, inl, inr, ⊎_elim, ℕ, zero, suc, ◌+◌, ◌<◌, ◌≤◌, ℤ, pos, negsuc, neg_ℤ, ◌<ℤ◌, List, [], ◌∷◌, map, length, get_or, refl, sym, ap, subst, ◌∙◌, arith, Ordering}
use Rattle.std.specs.List.{Contains}
use Rattle.std.specs.Ordering.{MatchOrdering}
use Rattle.std.specs.Cmp.{int_ranks, int_cmp_is}
use Rattle.std.specs.declared.cmp.Ordering.TheVariants.{Less, Equal, Greater}
use Rattle.std.proofs.lemmas.List.{get_or_default}
use Rattle.poly_num.proofs.Ring.{lin}
use Rattle.poly_num.specs.Signs.{sign_of, lex_sign_of}
use Rattle.poly_model.specs.Keys.{IsAscending}
use Rattle.poly_model.specs.LexOrder.{IsPositive, IsNonnegative, Precedes, backwards}
use Rattle.linear_laws.proofs.Members.{Contains-nil, Contains-first, Contains-later, Contains-cons_cases}
use Rattle.dictionary_laws.specs.Keys.{place_in}
use Rattle.dictionary_laws.proofs.KeyExchange.{ascending_distinct}
use Rattle.dictionary_laws.proofs.Members.{ascending_places}
use Rattle.dictionary.proofs.PlaceLemmas.{place_within, at_place}
use Rattle.tree_laws.proofs.LexLemmas.{map_negative}
use Rattle.tree_laws.proofs.ListOrder.{precedes_members, before_is_smaller, before_backwards, backwards_has, backwards_only}

-- ---- one number
pub sign_zero : (z : ℤ) → z ≡ pos 0 → sign_of z ≡ Equal
sign_zero z e = sym (int_cmp_is z (pos 0) Equal e)

pub zero_sign : (z : ℤ) → sign_of z ≡ Equal → z ≡ pos 0
zero_sign z e = by (sign_of z) (int_ranks z (pos 0)) e
  where
    by : (o : Ordering) → MatchOrdering o (z <ℤ pos 0) (z ≡ pos 0) (pos 0 <ℤ z) → o ≡ Equal → z ≡ pos 0
    by Less h q = absurd cc
    by Equal h q = h
    by Greater h q = absurd cc

-- ---- a list of numbers
pub zero_first : (z : ℤ) (w : List ℤ) → z ≡ pos 0 → lex_sign_of (z ∷ w) ≡ lex_sign_of w
zero_first z w h = rw h refl

pub other_first : (z : ℤ) (w : List ℤ) → z ≢ pos 0 → lex_sign_of (z ∷ w) ≡ sign_of z
other_first (pos zero) w n = absurd (n refl)
other_first (pos (suc k)) w n = int_cmp_is (pos (suc k)) (pos 0) Greater (omega (arith, lin))
other_first (negsuc k) w n = int_cmp_is (negsuc k) (pos 0) Less (omega (arith, lin))

pub greater : (xs : List ℤ) → (lex_sign_of xs ≡ Greater) ↔ IsPositive xs
greater [] = ((λ e. absurd cc), (λ h. absurd h))
greater (pos zero ∷ xs) = (
  (λ e. inr (refl, (greater xs).0 e)),
  (λ h. ⊎_elim (λ (l : pos 0 <ℤ pos 0). absurd (omega (arith, lin)))
      (λ (p : (pos 0 ≡ pos 0) × IsPositive xs). (greater xs).1 p.1) h),
)
greater (pos (suc n) ∷ xs) = ((λ e. inl (omega (arith, lin))), (λ h. refl))
greater (negsuc n ∷ xs) = (
  (λ e. absurd cc),
  (λ h. absurd (⊎_elim (λ (l : pos 0 <ℤ negsuc n). omega (arith, lin))
      (λ (p : (negsuc n ≡ pos 0) × IsPositive xs). let q = p.0 in omega (arith, lin)) h)),
)

pub less : (xs : List ℤ) → (lex_sign_of xs ≡ Less) ↔ IsPositive (map neg_ℤ xs)
less [] = ((λ e. absurd cc), (λ h. absurd h))
less (pos zero ∷ xs) = (
  (λ e. inr (refl, (less xs).0 e)),
  (λ h. ⊎_elim (λ (l : pos 0 <ℤ pos 0). absurd (omega (arith, lin)))
      (λ (p : (pos 0 ≡ pos 0) × IsPositive (map neg_ℤ xs)). (less xs).1 p.1) h),
)
less (pos (suc n) ∷ xs) = (
  (λ e. absurd cc),
  (λ h. absurd (⊎_elim (λ (l : pos 0 <ℤ neg_ℤ (pos (suc n))). omega (arith, lin))
      (λ (p : (neg_ℤ (pos (suc n)) ≡ pos 0) × IsPositive (map neg_ℤ xs)). let q = p.0 in omega (arith, lin)) h)),
)
less (negsuc n ∷ xs) = ((λ e. inl (omega (arith, lin))), (λ h. refl))

pub not_less : (xs : List ℤ) → lex_sign_of xs ≢ Less → IsNonnegative xs
not_less [] n = tt
not_less (pos zero ∷ xs) n = inr (refl, not_less xs n)
not_less (pos (suc k) ∷ xs) n = inl (omega (arith, lin))
not_less (negsuc k ∷ xs) n = absurd (n refl)

-- ---- places in an ascending list
split_at : (a b : ℕ) → (a ≤ b) ⊎ (b < a)
split_at a b = grind arith

-- what is greater stands behind
pub place_behind : (xs : List ℕ) → IsAscending xs → (i j : ℕ) → i < length xs → get_or xs i 0 < get_or xs j 0 → i < j
place_behind xs h i j l m =
    ⊎_elim (λ (a : j ≤ i). let b = ascending_places xs h j i a l in absurd (omega arith)) (λ (a : i < j). a) (split_at j i)

module _ (f : ℕ → ℤ) where
  pub no_sign : (ks : List ℕ) → ((k : ℕ) → Contains ks k → f k ≡ pos 0) → lex_sign_of (map f ks) ≡ Equal
  no_sign [] h = refl
  no_sign (x ∷ ks) h =
      zero_first (f x) (map f ks) (h x (Contains-first x ks))
      ∙ no_sign ks (λ k c. h k (Contains-later k x ks c))

  -- those before k are 0
  pub first_sign : (ks : List ℕ) (k : ℕ) → Contains ks k → ((j : ℕ) → Precedes ks j k → f j ≡ pos 0) → f k ≢ pos 0 →
      lex_sign_of (map f ks) ≡ sign_of (f k)
  first_sign [] k c h n = absurd (Contains-nil k c)
  first_sign (x ∷ ks) k c h n =
      ⊎_elim
      (λ (e : x ≡ k). subst (λ q. lex_sign_of (f x ∷ map f ks) ≡ sign_of (f q)) e
      (other_first (f x) (map f ks) (λ z. n (ap f (sym e) ∙ z))))
      (λ (d : Contains ks k). zero_first (f x) (map f ks) (h x (inl (refl, d)))
      ∙ first_sign ks k d (λ j p. h j (inr p)) n)
      (Contains-cons_cases k x ks c)

  module _ (ks : List ℕ) (asc : IsAscending ks) where
    -- those below k are 0
    pub ascending_sign : (k : ℕ) → Contains ks k → ((j : ℕ) → Contains ks j → j < k → f j ≡ pos 0) → f k ≢ pos 0 →
        lex_sign_of (map f ks) ≡ sign_of (f k)
    ascending_sign k c h n =
        first_sign ks k c (λ j p. h j (precedes_members ks j k p).0 (before_is_smaller ks j k asc p)) n

    -- those above k are 0
    pub descending_sign : (k : ℕ) → Contains ks k → ((j : ℕ) → Contains ks j → k < j → f j ≡ pos 0) → f k ≢ pos 0 →
        lex_sign_of (map f (backwards ks)) ≡ sign_of (f k)
    descending_sign k c h n =
        first_sign (backwards ks) k (backwards_has ks k c)
        (λ j p. let b = before_backwards ks k j (ascending_distinct ks asc) p in
        h j (precedes_members ks k j b).1 (before_is_smaller ks k j asc b))
        n

    pub no_descending_sign : ((k : ℕ) → Contains ks k → f k ≡ pos 0) → lex_sign_of (map f (backwards ks)) ≡ Equal
    no_descending_sign h = no_sign (backwards ks) (λ k c. h k (backwards_only ks k c))

-- ---- a scan of ascending labels for the members of a part of them
-- at the places below n it is 0
abbrev pub IsZeroBelow : (ℕ → ℤ) → List ℕ → List ℕ → ℕ → Type 0
IsZeroBelow f ks part n = (j : ℕ) → j < n → Contains part (get_or ks j 0) → f (get_or ks j 0) ≡ pos 0

-- from place n on it is 0
abbrev pub IsZeroFrom : (ℕ → ℤ) → List ℕ → List ℕ → ℕ → Type 0
IsZeroFrom f ks part n =
    (j : ℕ) → n ≤ j → j < length ks → Contains part (get_or ks j 0) → f (get_or ks j 0) ≡ pos 0

module _ (f : ℕ → ℤ) (ks part : List ℕ) where
  moved : (k q : ℕ) → q ≡ k → Contains part k → (Contains part q → f q ≡ pos 0) → f k ≡ pos 0
  moved k q e c h = subst (λ z. f z ≡ pos 0) e (h (subst (Contains part) (sym e) c))

  module _ (n q : ℕ) (l : n < length ks) (read : q ≡ get_or ks n q) (o : Ordering) where
    read_here : q ≡ get_or ks n 0
    read_here = read ∙ get_or_default ks n q 0 l

    pub zero_here : (Contains part q → o ≡ sign_of (f q)) → o ≡ Equal → Contains part (get_or ks n 0) →
        f (get_or ks n 0) ≡ pos 0
    zero_here v m c =
        subst (λ z. f z ≡ pos 0) read_here (zero_sign (f q) (sym (v (subst (Contains part) (sym read_here) c)) ∙ m))

    pub kept_up : IsZeroBelow f ks part n → (Contains part q → o ≡ sign_of (f q)) → o ≡ Equal →
        IsZeroBelow f ks part (n + 1)
    kept_up h v m j a c =
        ⊎_elim
        (λ (x : j ≡ n). moved (get_or ks j 0) (get_or ks n 0) (ap (λ i. get_or ks i 0) (sym x)) c (zero_here v m))
        (λ (x : j < n). h j x c) (equal_or_below j n a)
      where
        equal_or_below : (j n : ℕ) → j < n + 1 → (j ≡ n) ⊎ (j < n)
        equal_or_below j n l = grind arith

module _ (f : ℕ → ℤ) (ks part : List ℕ) (up : IsAscending ks) (asc : IsAscending part)
    (within : (k : ℕ) → Contains part k → Contains ks k) where
  at : (k : ℕ) → Contains part k → (p : ℕ) × (p < length ks) × (get_or ks p 0 ≡ k)
  at k c =
      let m = within k c in (place_in ks k, place_within ks k m, at_place ks k 0 m)

  module _ (n q : ℕ) (l : n < length ks) (read : q ≡ get_or ks n q) (o : Ordering) where
    e : q ≡ get_or ks n 0
    e = read_here f ks part n q l read o

    pub found_up : IsZeroBelow f ks part n → o ≢ Equal → Contains part q → o ≡ sign_of (f q) →
        o ≡ lex_sign_of (map f part)
    found_up h m c v =
        v ∙ sym (ascending_sign f part asc q c
        (λ j d b. let p = at j d in
        moved f ks part j (get_or ks p.0 0) p.2 d
        (h p.0 (place_behind ks up p.0 n p.1 (subst (λ z. z < get_or ks n 0) (sym p.2) (subst (λ z. j < z) e b)))))
        (λ z. m (v ∙ sign_zero (f q) z)))

    pub found_down : (b : ℕ) → b ≡ n + 1 → IsZeroFrom f ks part b → o ≢ Equal → Contains part q → o ≡ sign_of (f q) →
        o ≡ lex_sign_of (map f (backwards part))
    found_down b w h m c v =
        v ∙ sym (descending_sign f part asc q c
        (λ j d g. let p = at j d in
        let r = place_behind ks up n p.0 l (subst (λ z. get_or ks n 0 < z) (sym p.2) (subst (λ z. z < j) e g)) in
        moved f ks part j (get_or ks p.0 0) p.2 d (h p.0 (omega arith) p.1))
        (λ z. m (v ∙ sign_zero (f q) z)))

    pub kept_down : (b : ℕ) → b ≡ n + 1 → IsZeroFrom f ks part b → (Contains part q → o ≡ sign_of (f q)) → o ≡ Equal →
        IsZeroFrom f ks part n
    kept_down b w h v m j a d c =
        ⊎_elim
        (λ (x : n ≡ j). moved f ks part (get_or ks j 0) (get_or ks n 0) (ap (λ i. get_or ks i 0) x) c (zero_here f ks part n q l read o v m))
        (λ (x : n < j). h j (omega arith) d c) (equal_or_below n j a)
      where
        equal_or_below : (n j : ℕ) → n ≤ j → (n ≡ j) ⊎ (n < j)
        equal_or_below n j l = grind arith

  pub none_up : (n : ℕ) → length ks ≤ n → IsZeroBelow f ks part n → Equal ≡ lex_sign_of (map f part)
  none_up n l h =
      sym (no_sign f part (λ k c. let p = at k c in let q = p.1 in moved f ks part k (get_or ks p.0 0) p.2 c (h p.0 (omega arith))))

  pub none_down : IsZeroFrom f ks part 0 → Equal ≡ lex_sign_of (map f (backwards part))
  none_down h =
      sym (no_descending_sign f part asc
      (λ k c. let p = at k c in moved f ks part k (get_or ks p.0 0) p.2 c (h p.0 (omega arith) p.1)))

-- ---- the sign of a list of values
pub values_greater : (f : ℕ → ℤ) (ks : List ℕ) (o : Ordering) → o ≡ lex_sign_of (map f ks) →
    (o ≡ Greater) ↔ IsPositive (map f ks)
values_greater f ks o e = ((λ g. (greater (map f ks)).0 (sym e ∙ g)), (λ h. e ∙ (greater (map f ks)).1 h))

pub values_less : (f : ℕ → ℤ) (ks : List ℕ) (o : Ordering) → o ≡ lex_sign_of (map f ks) →
    (o ≡ Less) ↔ IsPositive (map (λ k. neg_ℤ (f k)) ks)
values_less f ks o e = (
  (λ l. subst IsPositive (map_negative f ks) ((less (map f ks)).0 (sym e ∙ l))),
  (λ h. e ∙ (less (map f ks)).1 (subst IsPositive (sym (map_negative f ks)) h)),
)

-- the sign of a list is that of another one with the same signs
module _ (f g : ℕ → ℤ) (same : (k : ℕ) → sign_of (f k) ≡ sign_of (g k)) where
  one_more_sign : (k : ℕ) (ks : List ℕ) → lex_sign_of (map f ks) ≡ lex_sign_of (map g ks) → (o : Ordering) →
      sign_of (f k) ≡ o → lex_sign_of (f k ∷ map f ks) ≡ lex_sign_of (g k ∷ map g ks)
  one_more_sign k ks h Equal z =
      zero_first (f k) (map f ks) (zero_sign (f k) z) ∙ h
      ∙ sym (zero_first (g k) (map g ks) (zero_sign (g k) (sym (same k) ∙ z)))
  one_more_sign k ks h Less s =
      other_first (f k) (map f ks) (λ z. let q = sign_zero (f k) z in cc) ∙ same k
      ∙ sym (other_first (g k) (map g ks) (λ z. let q = sign_zero (g k) z in let r = same k in cc))
  one_more_sign k ks h Greater s =
      other_first (f k) (map f ks) (λ z. let q = sign_zero (f k) z in cc) ∙ same k
      ∙ sym (other_first (g k) (map g ks) (λ z. let q = sign_zero (g k) z in let r = same k in cc))

  pub same_signs : (ks : List ℕ) → lex_sign_of (map f ks) ≡ lex_sign_of (map g ks)
  same_signs [] = refl
  same_signs (k ∷ ks) = one_more_sign k ks (same_signs ks) (sign_of (f k)) refl
