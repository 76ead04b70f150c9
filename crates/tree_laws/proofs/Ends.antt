-- Where columns with weights are not negative on a list of rows, and the weighted sums vanish on it: each column with a
-- weight is 0 on all of the rows.
use Rattle.std.proofs.Common.{◌≡◌, ◌⊎◌, inl, inr, ℕ, ℤ, pos, ◌+ℤ◌, ◌*ℤ◌, ◌≤ℤ◌, ◌<ℤ◌, List, [], ◌∷◌, map, sym, ap, subst, ◌∙◌, arith}
use Rattle.std.specs.List.{Contains}
use Rattle.poly_num.specs.Vectors.{IsZero, scale, sum_of}
use Rattle.poly_num.proofs.Ring.{lin, add_zero}
use Rattle.poly_num.proofs.Order.{positive_nonzero}
use Rattle.poly_model.specs.Dictionaries.{sum_over}
use Rattle.poly_model.specs.LexOrder.{IsNonnegative}
use Rattle.linear_laws.proofs.Members.{Contains-nil, Contains-first, Contains-later}
use Rattle.dictionary_laws.proofs.Members.{by_cases}
use Rattle.tree_laws.proofs.LexLemmas.{by_sign, nonnegative_sum, zero_sum, nonnegative_scale, zero_scale, zero_scaled, zero_is_nonnegative}

-- the sum of f times the weight over these labels, and this list
abbrev pub weighted : List ℕ → (ℕ → ℤ) → (ℕ → List ℤ) → List ℤ → List ℤ
weighted [] f w u = u
weighted (c ∷ cs) f w u = sum_of (scale (f c) (w c)) (weighted cs f w u)

-- the weight is 0, or the values on the rows are not negative, the greatest row first
abbrev IsUp : (ℕ → ℕ → ℤ) → (ℕ → List ℤ) → List ℕ → ℕ → Type 0
IsUp f w qs c = IsZero (w c) ⊎ IsNonnegative (map (λ q. f q c) qs)

-- the weight is 0, or the value is
abbrev pub IsGone : (ℕ → ℤ) → (ℕ → List ℤ) → ℕ → Type 0
IsGone f w c = IsZero (w c) ⊎ (f c ≡ pos 0)

up_here : (f : ℕ → ℕ → ℤ) (w : ℕ → List ℤ) (q : ℕ) (qs : List ℕ) (c : ℕ) → IsUp f w (q ∷ qs) c →
    IsZero (w c) ⊎ (pos 0 ≤ℤ f q c)
up_here f w q qs c (inl z) = inl z
up_here f w q qs c (inr (inl h)) = inr (omega (arith, lin))
up_here f w q qs c (inr (inr h)) = inr (let e : f q c ≡ pos 0 = h.0 in omega (arith, lin))

up_further : (f : ℕ → ℕ → ℤ) (w : ℕ → List ℤ) (q : ℕ) (qs : List ℕ) (c : ℕ) → IsUp f w (q ∷ qs) c →
    IsGone (f q) w c → IsUp f w qs c
up_further f w q qs c (inl z) g = inl z
up_further f w q qs c (inr h) (inl z) = inl z
up_further f w q qs c (inr (inl h)) (inr e) = absurd (omega (arith, lin))
up_further f w q qs c (inr (inr h)) (inr e) = inr h.1

module _ (w : ℕ → List ℤ) where
  -- one row: values that are not negative
  module _ (f : ℕ → ℤ) where
    term_nonnegative : (c : ℕ) → IsNonnegative (w c) → IsZero (w c) ⊎ (pos 0 ≤ℤ f c) → IsNonnegative (scale (f c) (w c))
    term_nonnegative c h (inl z) = zero_is_nonnegative (scale (f c) (w c)) (zero_scale (f c) (w c) z)
    term_nonnegative c h (inr l) = nonnegative_scale (f c) (w c) l h

    weighted_nonnegative : (cs : List ℕ) (u : List ℤ) → ((c : ℕ) → Contains cs c → IsNonnegative (w c)) →
        ((c : ℕ) → Contains cs c → IsZero (w c) ⊎ (pos 0 ≤ℤ f c)) → IsNonnegative u →
        IsNonnegative (weighted cs f w u)
    weighted_nonnegative [] u h l k = k
    weighted_nonnegative (c ∷ cs) u h l k =
        nonnegative_sum (scale (f c) (w c)) (weighted cs f w u)
        (term_nonnegative c (h c (Contains-first c cs)) (l c (Contains-first c cs)))
        (weighted_nonnegative cs u (λ j i. h j (Contains-later j c cs i)) (λ j i. l j (Contains-later j c cs i)) k)

    gone : (c : ℕ) → IsZero (scale (f c) (w c)) → IsGone f w c
    gone c z =
        by_sign (IsGone f w c) (f c)
        (λ h. inl (zero_scaled (f c) (w c) (λ e. omega (arith, lin)) z))
        (λ e. inr e)
        (λ h. inl (zero_scaled (f c) (w c) (λ e. omega (arith, lin)) z))

    pub row_ends : (cs : List ℕ) (u : List ℤ) → ((c : ℕ) → Contains cs c → IsNonnegative (w c)) →
        ((c : ℕ) → Contains cs c → IsZero (w c) ⊎ (pos 0 ≤ℤ f c)) → IsNonnegative u →
        IsZero (weighted cs f w u) → IsZero u × ((c : ℕ) → Contains cs c → IsGone f w c)
    row_ends [] u h l k z = (z, λ c i. absurd (Contains-nil c i))
    row_ends (c ∷ cs) u h l k z =
        let further = λ (j : ℕ) (i : Contains cs j). h j (Contains-later j c cs i) in
        let above = λ (j : ℕ) (i : Contains cs j). l j (Contains-later j c cs i) in
        let parts = zero_sum (scale (f c) (w c)) (weighted cs f w u)
        (term_nonnegative c (h c (Contains-first c cs)) (l c (Contains-first c cs)))
        (weighted_nonnegative cs u further above k) z in
        let rest = row_ends cs u further above k parts.1 in
        (rest.0, by_cases (IsGone f w) c cs (gone c parts.0) rest.1)

  -- qs: rows, the greatest first; u: what stands beside the sum
  pub ends : (qs cs : List ℕ) (f : ℕ → ℕ → ℤ) (u : ℕ → List ℤ) →
      ((c : ℕ) → Contains cs c → IsNonnegative (w c)) →
      ((q : ℕ) → Contains qs q → IsNonnegative (u q)) →
      ((c : ℕ) → Contains cs c → IsZero (w c) ⊎ IsNonnegative (map (λ q. f q c) qs)) →
      ((q : ℕ) → Contains qs q → IsZero (weighted cs (f q) w (u q))) →
      (q : ℕ) → Contains qs q → IsZero (u q) × ((c : ℕ) → Contains cs c → IsGone (f q) w c)
  ends [] cs f u h k l z = λ q i. absurd (Contains-nil q i)
  ends (q ∷ qs) cs f u h k l z =
      let first = row_ends (f q) cs (u q) h (λ c i. up_here f w q qs c (l c i)) (k q (Contains-first q qs))
      (z q (Contains-first q qs)) in
      by_cases (λ q. IsZero (u q) × ((c : ℕ) → Contains cs c → IsGone (f q) w c)) q qs first
      (ends qs cs f u h (λ j i. k j (Contains-later j q qs i))
      (λ c i. up_further f w q qs c (l c i) (first.1 c i))
      (λ j i. z j (Contains-later j q qs i)))

-- ---- weights of the form x ∷ map g ks
weighted-cons : (cs : List ℕ) (f x : ℕ → ℤ) (xs : ℕ → List ℤ) (y : ℤ) (ys : List ℤ) →
    weighted cs f (λ c. x c ∷ xs c) (y ∷ ys) ≡ (y +ℤ sum_over cs (λ c. f c *ℤ x c)) ∷ weighted cs f xs ys
weighted-cons [] f x xs y ys = ap (λ z. z ∷ ys) (sym (add_zero y))
weighted-cons (c ∷ cs) f x xs y ys =
    ap (λ t. sum_of (scale (f c) (x c ∷ xs c)) t) (weighted-cons cs f x xs y ys)
    ∙ ap (λ z. z ∷ weighted (c ∷ cs) f xs ys) (exchanged (f c *ℤ x c) y (sum_over cs (λ c. f c *ℤ x c)))
  where
    exchanged : (a b s : ℤ) → a +ℤ (b +ℤ s) ≡ b +ℤ (a +ℤ s)
    exchanged a b s = omega (arith, lin)

weighted_nil : (cs : List ℕ) (f : ℕ → ℤ) → IsZero (weighted cs f (λ c. []) [])
weighted_nil [] f = tt
weighted_nil (c ∷ cs) f = weighted_nil cs f

weighted_zero : (cs ks : List ℕ) (f : ℕ → ℤ) (g : ℕ → ℕ → ℤ) (p : ℤ) (h : ℕ → ℤ) →
    ((k : ℕ) → Contains ks k → p *ℤ h k +ℤ sum_over cs (λ c. f c *ℤ g c k) ≡ pos 0) →
    IsZero (weighted cs f (λ c. map (g c) ks) (scale p (map h ks)))
weighted_zero cs [] f g p h z = weighted_nil cs f
weighted_zero cs (k ∷ ks) f g p h z =
    subst IsZero (sym (weighted-cons cs f (λ c. g c k) (λ c. map (g c) ks) (p *ℤ h k) (scale p (map h ks))))
    (z k (Contains-first k ks), weighted_zero cs ks f g p h (λ j i. z j (Contains-later j k ks i)))

-- cs: columns with the lists x ∷ map g ks; qs: rows, the greatest first, with the lists y ∷ map h ks
pub ends_of_lists : (p : ℤ) (qs cs ks : List ℕ) (f : ℕ → ℕ → ℤ) (x : ℕ → ℤ) (g : ℕ → ℕ → ℤ) (y : ℕ → ℤ)
    (h : ℕ → ℕ → ℤ) → pos 0 <ℤ p →
    ((c : ℕ) → Contains cs c → IsNonnegative (x c ∷ map (g c) ks)) →
    ((q : ℕ) → Contains qs q → IsNonnegative (y q ∷ map (h q) ks)) →
    ((c : ℕ) → Contains cs c → IsZero (x c ∷ map (g c) ks) ⊎ IsNonnegative (map (λ q. f q c) qs)) →
    ((q : ℕ) → Contains qs q → p *ℤ y q +ℤ sum_over cs (λ c. f q c *ℤ x c) ≡ pos 0) →
    ((q k : ℕ) → Contains qs q → Contains ks k → p *ℤ h q k +ℤ sum_over cs (λ c. f q c *ℤ g c k) ≡ pos 0) →
    (q : ℕ) → Contains qs q →
    IsZero (y q ∷ map (h q) ks) × ((c : ℕ) → Contains cs c → IsGone (f q) (λ c. x c ∷ map (g c) ks) c)
ends_of_lists p qs cs ks f x g y h up weights rows columns first others q i =
    let e = ends (λ c. x c ∷ map (g c) ks) qs cs f (λ q. scale p (y q ∷ map (h q) ks)) weights
    (λ q i. nonnegative_scale p (y q ∷ map (h q) ks) (omega (arith, lin)) (rows q i)) columns
    (λ q i. subst IsZero (sym (weighted-cons cs (f q) x (λ c. map (g c) ks) (p *ℤ y q) (scale p (map (h q) ks))))
    (first q i, weighted_zero cs ks (f q) g p (h q) (λ k j. others q k i j))) q i in
    (zero_scaled p (y q ∷ map (h q) ks) (positive_nonzero p up) e.0, e.1)
