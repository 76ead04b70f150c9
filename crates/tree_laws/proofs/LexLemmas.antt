-- Lists of numbers by their first entry that is not 0: signs, sums, multiples.
use Rattle.std.proofs.Common.{◌≡◌, ◌≢◌, ◌⊎◌, inl, inr, ⊎_elim, ℤ, pos, ◌+ℤ◌, ◌*ℤ◌, neg_ℤ, ◌<ℤ◌, ◌≤ℤ◌, List, [], ◌∷◌, map, ap, subst, ◌∙◌, arith, refl, sym}
use Rattle.std.proofs.lemmas.Int.{by_lt_z}
use Rattle.poly_num.specs.Vectors.{IsZero, scale, sum_of}
use Rattle.poly_num.proofs.Ring.{lin, mul_zero, zero_mul}
use Rattle.poly_num.proofs.Order.{positive_product, positive_factor, zero_factor, positive_nonzero}
use Rattle.std.specs.List.{Contains}
use Rattle.linear_laws.proofs.Members.{Contains-first, Contains-later}
use Rattle.poly_model.specs.LexOrder.{IsNonnegative, IsPositive}
use Rattle.linear_laws.proofs.Combinations.{combination}

both_zero : (x y : ℤ) → x ≡ pos 0 → y ≡ pos 0 → x +ℤ y ≡ pos 0
both_zero x y h k = omega (arith, lin)

-- a number is positive, 0 or negative
pub by_sign : (P : Type 0) (x : ℤ) → (pos 0 <ℤ x → P) → (x ≡ pos 0 → P) → (x <ℤ pos 0 → P) → P
by_sign P x up none down =
    by_lt_z (pos 0) x up (λ m. by_lt_z x (pos 0) down (λ n. none (omega (arith, lin))))

-- ---- signs of lists
pub positive_is_nonnegative : (xs : List ℤ) → IsPositive xs → IsNonnegative xs
positive_is_nonnegative [] h = absurd h
positive_is_nonnegative (x ∷ xs) (inl h) = inl h
positive_is_nonnegative (x ∷ xs) (inr h) = inr (h.0, positive_is_nonnegative xs h.1)

pub zero_is_nonnegative : (xs : List ℤ) → IsZero xs → IsNonnegative xs
zero_is_nonnegative [] z = tt
zero_is_nonnegative (x ∷ xs) z = inr (z.0, zero_is_nonnegative xs z.1)

pub positive_or_zero : (xs : List ℤ) → IsNonnegative xs → IsPositive xs ⊎ IsZero xs
positive_or_zero [] h = inr tt
positive_or_zero (x ∷ xs) (inl h) = inl (inl h)
positive_or_zero (x ∷ xs) (inr h) =
    ⊎_elim (λ (p : IsPositive xs). inl (inr (h.0, p))) (λ (z : IsZero xs). inr (h.0, z)) (positive_or_zero xs h.1)

pub positive_unless_zero : (xs : List ℤ) → IsNonnegative xs → (IsZero xs → ⊥) → IsPositive xs
positive_unless_zero xs h n =
    ⊎_elim (λ (p : IsPositive xs). p) (λ (z : IsZero xs). absurd (n z)) (positive_or_zero xs h)

pub positive_not_zero : (xs : List ℤ) → IsPositive xs → IsZero xs → ⊥
positive_not_zero [] h z = h
positive_not_zero (x ∷ xs) (inl h) z = let e : x ≡ pos 0 = z.0 in omega (arith, lin)
positive_not_zero (x ∷ xs) (inr h) z = positive_not_zero xs h.1 z.1

-- a list is positive, all 0, or its negative is positive
pub by_list_sign : (P : Type 0) (xs : List ℤ) → (IsPositive xs → P) → (IsZero xs → P) →
    (IsPositive (map neg_ℤ xs) → P) → P
by_list_sign P [] up none down = none tt
by_list_sign P (x ∷ xs) up none down =
    by_sign P x
    (λ h. up (inl h))
    (λ e. by_list_sign P xs (λ p. up (inr (e, p))) (λ z. none (e, z)) (λ n. down (inr (omega (arith, lin), n))))
    (λ h. down (inl (omega (arith, lin))))

pub list_by_sign : (xs : List ℤ) → IsPositive xs ⊎ (IsZero xs ⊎ IsPositive (map neg_ℤ xs))
list_by_sign xs =
    by_list_sign (IsPositive xs ⊎ (IsZero xs ⊎ IsPositive (map neg_ℤ xs))) xs
    (λ p. inl p) (λ z. inr (inl z)) (λ n. inr (inr n))

pub nonnegative_or_below : (xs : List ℤ) → IsNonnegative xs ⊎ IsPositive (map neg_ℤ xs)
nonnegative_or_below xs =
    by_list_sign (IsNonnegative xs ⊎ IsPositive (map neg_ℤ xs)) xs
    (λ p. inl (positive_is_nonnegative xs p)) (λ z. inl (zero_is_nonnegative xs z)) (λ n. inr n)

pub either_nonnegative : (xs : List ℤ) → IsNonnegative xs ⊎ IsNonnegative (map neg_ℤ xs)
either_nonnegative xs =
    by_list_sign (IsNonnegative xs ⊎ IsNonnegative (map neg_ℤ xs)) xs
    (λ p. inl (positive_is_nonnegative xs p)) (λ z. inl (zero_is_nonnegative xs z))
    (λ n. inr (positive_is_nonnegative (map neg_ℤ xs) n))

pub not_above_and_below : (xs : List ℤ) → IsNonnegative xs → IsPositive (map neg_ℤ xs) → ⊥
not_above_and_below [] h k = k
not_above_and_below (x ∷ xs) (inl h) (inl k) = omega (arith, lin)
not_above_and_below (x ∷ xs) (inl h) (inr k) = let e : neg_ℤ x ≡ pos 0 = k.0 in omega (arith, lin)
not_above_and_below (x ∷ xs) (inr h) (inl k) = let e : x ≡ pos 0 = h.0 in omega (arith, lin)
not_above_and_below (x ∷ xs) (inr h) (inr k) = not_above_and_below xs h.1 k.1

pub zero_if_both : (xs : List ℤ) → IsNonnegative xs → IsNonnegative (map neg_ℤ xs) → IsZero xs
zero_if_both xs h k =
    ⊎_elim
    (λ (p : IsPositive xs). absurd (not_above_and_below (map neg_ℤ xs) k (twice xs p)))
    (λ (z : IsZero xs). z)
    (positive_or_zero xs h)
  where
    twice : (xs : List ℤ) → IsPositive xs → IsPositive (map neg_ℤ (map neg_ℤ xs))
    twice [] p = p
    twice (x ∷ xs) (inl p) = inl (omega (arith, lin))
    twice (x ∷ xs) (inr p) = inr (let e : x ≡ pos 0 = p.0 in omega (arith, lin), twice xs p.1)

-- whether a list is positive can be decided
pub positive_or_not : (xs : List ℤ) → IsPositive xs ⊎ (IsPositive xs → ⊥)
positive_or_not xs =
    by_list_sign (IsPositive xs ⊎ (IsPositive xs → ⊥)) xs
    (λ p. inl p)
    (λ z. inr (λ p. positive_not_zero xs p z))
    (λ n. inr (λ p. not_above_and_below xs (positive_is_nonnegative xs p) n))

-- ---- the values of f at the members of a list
pub map_negative : {X : Type 0} (f : X → ℤ) (xs : List X) → map neg_ℤ (map f xs) ≡ map (λ x. neg_ℤ (f x)) xs
map_negative {X} f [] = refl
map_negative {X} f (x ∷ xs) = ap (λ ys. neg_ℤ (f x) ∷ ys) (map_negative f xs)

-- they are not negative, or their negatives are positive, and not both
pub values_nonnegative : {X : Type 0} (f : X → ℤ) (xs : List X) →
    IsNonnegative (map f xs) ⊎ IsPositive (map (λ x. neg_ℤ (f x)) xs)
values_nonnegative {X} f xs =
    subst (λ ys. IsNonnegative (map f xs) ⊎ IsPositive ys) (map_negative f xs) (nonnegative_or_below (map f xs))

pub values_not_both : {X : Type 0} (f : X → ℤ) (xs : List X) →
    IsNonnegative (map f xs) → IsPositive (map (λ x. neg_ℤ (f x)) xs) → ⊥
values_not_both {X} f xs h k =
    not_above_and_below (map f xs) h (subst IsPositive (sym (map_negative f xs)) k)

-- a positive list of values has a positive one
pub positive_value : {X : Type 0} (f : X → ℤ) (xs : List X) → IsPositive (map f xs) →
    (x : X) × Contains xs x × (pos 0 <ℤ f x)
positive_value {X} f [] h = absurd h
positive_value {X} f (x ∷ xs) (inl h) = (x, Contains-first x xs, h)
positive_value {X} f (x ∷ xs) (inr h) =
    let w = positive_value f xs h.1 in (w.0, Contains-later w.0 x xs w.1, w.2)

-- ---- sums
pub nonnegative_sum : (u v : List ℤ) → IsNonnegative u → IsNonnegative v → IsNonnegative (sum_of u v)
nonnegative_sum [] v h k = k
nonnegative_sum (x ∷ u) [] h k = h
nonnegative_sum (x ∷ u) (y ∷ v) (inl h) (inl k) = inl (omega (arith, lin))
nonnegative_sum (x ∷ u) (y ∷ v) (inl h) (inr k) = inl (let e : y ≡ pos 0 = k.0 in omega (arith, lin))
nonnegative_sum (x ∷ u) (y ∷ v) (inr h) (inl k) = inl (let e : x ≡ pos 0 = h.0 in omega (arith, lin))
nonnegative_sum (x ∷ u) (y ∷ v) (inr h) (inr k) =
    inr (both_zero x y h.0 k.0, nonnegative_sum u v h.1 k.1)

-- a sum of lists that are not negative is 0 only where both are
pub zero_sum : (u v : List ℤ) → IsNonnegative u → IsNonnegative v → IsZero (sum_of u v) → IsZero u × IsZero v
zero_sum [] v h k z = (tt, z)
zero_sum (x ∷ u) [] h k z = (z, tt)
zero_sum (x ∷ u) (y ∷ v) (inl h) (inl k) z = absurd (let e : x +ℤ y ≡ pos 0 = z.0 in omega (arith, lin))
zero_sum (x ∷ u) (y ∷ v) (inl h) (inr k) z =
    absurd (let e : x +ℤ y ≡ pos 0 = z.0 in let f : y ≡ pos 0 = k.0 in omega (arith, lin))
zero_sum (x ∷ u) (y ∷ v) (inr h) (inl k) z =
    absurd (let e : x +ℤ y ≡ pos 0 = z.0 in let f : x ≡ pos 0 = h.0 in omega (arith, lin))
zero_sum (x ∷ u) (y ∷ v) (inr h) (inr k) z = let m = zero_sum u v h.1 k.1 z.1 in ((h.0, m.0), (k.0, m.1))

pub positive_sum : (u v : List ℤ) → IsPositive u → IsNonnegative v → IsPositive (sum_of u v)
positive_sum u v h k =
    positive_unless_zero (sum_of u v) (nonnegative_sum u v (positive_is_nonnegative u h) k)
    (λ z. positive_not_zero u h (zero_sum u v (positive_is_nonnegative u h) k z).0)

pub sum_positive : (u v : List ℤ) → IsNonnegative u → IsPositive v → IsPositive (sum_of u v)
sum_positive u v h k =
    positive_unless_zero (sum_of u v) (nonnegative_sum u v h (positive_is_nonnegative v k))
    (λ z. positive_not_zero v k (zero_sum u v h (positive_is_nonnegative v k) z).1)

-- ---- multiples
pub zero_scale : (p : ℤ) (v : List ℤ) → IsZero v → IsZero (scale p v)
zero_scale p [] z = tt
zero_scale p (x ∷ v) z = (ap (λ t. p *ℤ t) z.0 ∙ mul_zero p, zero_scale p v z.1)

pub scale_by_zero : (p : ℤ) (v : List ℤ) → p ≡ pos 0 → IsZero (scale p v)
scale_by_zero p [] e = tt
scale_by_zero p (x ∷ v) e = (ap (λ t. t *ℤ x) e ∙ zero_mul x, scale_by_zero p v e)

pub zero_scaled : (p : ℤ) (v : List ℤ) → p ≢ pos 0 → IsZero (scale p v) → IsZero v
zero_scaled p [] n z = tt
zero_scaled p (x ∷ v) n z = (zero_factor p x z.0 n, zero_scaled p v n z.1)

pub nonnegative_scale : (p : ℤ) (v : List ℤ) → pos 0 ≤ℤ p → IsNonnegative v → IsNonnegative (scale p v)
nonnegative_scale p v l h =
    by_sign (IsNonnegative (scale p v)) p (λ k. over v k h)
    (λ e. zero_is_nonnegative (scale p v) (scale_by_zero p v e))
    (λ k. absurd (omega (arith, lin)))
  where
    over : (v : List ℤ) → pos 0 <ℤ p → IsNonnegative v → IsNonnegative (scale p v)
    over [] k h = tt
    over (x ∷ v) k (inl h) = inl (positive_product p x k h)
    over (x ∷ v) k (inr h) = inr (ap (λ t. p *ℤ t) h.0 ∙ mul_zero p, over v k h.1)

pub positive_scale : (p : ℤ) (v : List ℤ) → pos 0 <ℤ p → IsPositive v → IsPositive (scale p v)
positive_scale p v l h =
    positive_unless_zero (scale p v)
    (nonnegative_scale p v (omega (arith, lin)) (positive_is_nonnegative v h))
    (λ z. positive_not_zero v h (zero_scaled p v (positive_nonzero p l) z))

pub nonnegative_scaled : (p : ℤ) (v : List ℤ) → pos 0 <ℤ p → IsNonnegative (scale p v) → IsNonnegative v
nonnegative_scaled p [] l h = tt
nonnegative_scaled p (x ∷ v) l (inl h) = inl (positive_factor p x l h)
nonnegative_scaled p (x ∷ v) l (inr h) =
    inr (zero_factor p x h.0 (positive_nonzero p l), nonnegative_scaled p v l h.1)

pub positive_scaled : (p : ℤ) (v : List ℤ) → pos 0 <ℤ p → IsPositive (scale p v) → IsPositive v
positive_scaled p v l h =
    positive_unless_zero v (nonnegative_scaled p v l (positive_is_nonnegative (scale p v) h))
    (λ z. positive_not_zero (scale p v) h (zero_scale p v z))

-- ---- p u + q v
pub nonnegative_combination : (p : ℤ) (u : List ℤ) (q : ℤ) (v : List ℤ) → pos 0 ≤ℤ p → pos 0 ≤ℤ q →
    IsNonnegative u → IsNonnegative v → IsNonnegative (combination p u q v)
nonnegative_combination p u q v l m h k =
    nonnegative_sum (scale p u) (scale q v) (nonnegative_scale p u l h) (nonnegative_scale q v m k)

pub positive_combination : (p : ℤ) (u : List ℤ) (q : ℤ) (v : List ℤ) → pos 0 <ℤ p → pos 0 ≤ℤ q →
    IsPositive u → IsNonnegative v → IsPositive (combination p u q v)
positive_combination p u q v l m h k =
    positive_sum (scale p u) (scale q v) (positive_scale p u l h) (nonnegative_scale q v m k)

pub combination_positive : (p : ℤ) (u : List ℤ) (q : ℤ) (v : List ℤ) → pos 0 ≤ℤ p → pos 0 <ℤ q →
    IsNonnegative u → IsPositive v → IsPositive (combination p u q v)
combination_positive p u q v l m h k =
    sum_positive (scale p u) (scale q v) (nonnegative_scale p u l h) (positive_scale q v m k)
