-- Lists of the values of functions at places: their sums, and the sign of their first value that is not 0.
use Rattle.std.proofs.Common.{◌≡◌, inl, inr, ℕ, List, [], ◌∷◌, ℤ, pos, ◌+ℤ◌, ◌-ℤ◌, ◌*ℤ◌, map, refl, sym, ap, subst, ◌∙◌, arith}
use Rattle.std.specs.Prelude.{◌<ℤ◌}
use Rattle.std.specs.List.{AllByRecursion, Contains}
use Rattle.poly_num.specs.Vectors.{scale, IsZero}
use Rattle.poly_num.proofs.Ring.{lin}
use Rattle.poly_num.proofs.Order.{zero_factor, positive_nonzero, positive_product, positive_factor}
use Rattle.poly_model.specs.Dictionaries.{sum_over}
use Rattle.poly_model.specs.LexOrder.{IsNonnegative, IsPositive, gaps}
use Rattle.linear_laws.proofs.Members.{Contains-first, Contains-later, all_at}
use Rattle.dictionary_laws.proofs.Directions.{times_zero}

pub sum-sub : (ks : List ℕ) (f g : ℕ → ℤ) →
    sum_over ks (λ k. f k -ℤ g k) ≡ sum_over ks f -ℤ sum_over ks g
sum-sub [] f g = refl
sum-sub (k ∷ ks) f g = let h = sum-sub ks f g in omega (arith, lin)

-- ---- signs
-- a value and a positive multiple of another that are equal
same_zero : (p q x y : ℤ) → pos 0 <ℤ q → p *ℤ x ≡ q *ℤ y → x ≡ pos 0 → y ≡ pos 0
same_zero p q x y h e z = zero_factor q y (sym e ∙ times_zero p x z) (positive_nonzero q h)

same_positive : (p q x y : ℤ) → pos 0 <ℤ p → pos 0 <ℤ q → p *ℤ x ≡ q *ℤ y → pos 0 <ℤ x → pos 0 <ℤ y
same_positive p q x y h k e l = positive_factor q y k (subst (λ (z : ℤ). pos 0 <ℤ z) e (positive_product p x h l))

sum_of_zeros : (p q x y : ℤ) → x ≡ pos 0 → y ≡ pos 0 → p *ℤ x +ℤ q *ℤ y ≡ pos 0
sum_of_zeros p q x y e f = let a = times_zero p x e in let b = times_zero q y f in omega (arith, lin)

sum_positive : (p q x y : ℤ) → pos 0 <ℤ p → pos 0 <ℤ q → pos 0 <ℤ x → pos 0 <ℤ y → pos 0 <ℤ (p *ℤ x +ℤ q *ℤ y)
sum_positive p q x y h k l m =
    let a = positive_product p x h l in let b = positive_product q y k m in omega (arith, lin)

first_positive : (p q x y : ℤ) → pos 0 <ℤ p → pos 0 <ℤ x → y ≡ pos 0 → pos 0 <ℤ (p *ℤ x +ℤ q *ℤ y)
first_positive p q x y h l e =
    let a = positive_product p x h l in let b = times_zero q y e in omega (arith, lin)

last_positive : (p q x y : ℤ) → pos 0 <ℤ q → x ≡ pos 0 → pos 0 <ℤ y → pos 0 <ℤ (p *ℤ x +ℤ q *ℤ y)
last_positive p q x y k e m =
    let a = times_zero p x e in let b = positive_product q y k m in omega (arith, lin)

module _ {X : Type 0} where
  pub map_same : (f g : X → ℤ) → ((x : X) → f x ≡ g x) → (xs : List X) → map f xs ≡ map g xs
  map_same f g h [] = refl
  map_same f g h (x ∷ xs) = let a = h x in let b = map_same f g h xs in cc

  pub gaps_of_maps : (p : ℤ) (f : X → ℤ) (q : ℤ) (g : X → ℤ) (xs : List X) →
      gaps p (map f xs) q (map g xs) ≡ map (λ x. p *ℤ f x -ℤ q *ℤ g x) xs
  gaps_of_maps p f q g [] = refl
  gaps_of_maps p f q g (x ∷ xs) = ap (λ ys. (p *ℤ f x -ℤ q *ℤ g x) ∷ ys) (gaps_of_maps p f q g xs)

  pub scale_of_map : (p : ℤ) (f : X → ℤ) (xs : List X) → scale p (map f xs) ≡ map (λ x. p *ℤ f x) xs
  scale_of_map p f [] = refl
  scale_of_map p f (x ∷ xs) = ap (λ ys. (p *ℤ f x) ∷ ys) (scale_of_map p f xs)

  zeros_of_map : (f : X → ℤ) (xs : List X) → IsZero (map f xs) → AllByRecursion (λ x. f x ≡ pos 0) xs
  zeros_of_map f [] h = tt
  zeros_of_map f (x ∷ xs) h = (h.0, zeros_of_map f xs h.1)

  pub zero_at : (f : X → ℤ) (xs : List X) → IsZero (map f xs) → (x : X) → Contains xs x → f x ≡ pos 0
  zero_at f xs h = all_at (λ x. f x ≡ pos 0) xs (zeros_of_map f xs h)

  pub zero_from : (f : X → ℤ) (xs : List X) → ((x : X) → Contains xs x → f x ≡ pos 0) → IsZero (map f xs)
  zero_from f [] h = tt
  zero_from f (x ∷ xs) h =
      (h x (Contains-first x xs), zero_from f xs (λ y c. h y (Contains-later y x xs c)))

  -- lists that are equal up to positive factors have one sign
  module _ (p q : ℤ) (h : pos 0 <ℤ p) (k : pos 0 <ℤ q) (f g : X → ℤ) (e : (x : X) → p *ℤ f x ≡ q *ℤ g x) where
    pub positive_along : (xs : List X) → IsPositive (map f xs) → IsPositive (map g xs)
    positive_along [] l = l
    positive_along (x ∷ xs) (inl l) = inl (same_positive p q (f x) (g x) h k (e x) l)
    positive_along (x ∷ xs) (inr l) = inr (same_zero p q (f x) (g x) k (e x) l.0, positive_along xs l.1)

    pub nonnegative_along : (xs : List X) → IsNonnegative (map f xs) → IsNonnegative (map g xs)
    nonnegative_along [] l = l
    nonnegative_along (x ∷ xs) (inl l) = inl (same_positive p q (f x) (g x) h k (e x) l)
    nonnegative_along (x ∷ xs) (inr l) = inr (same_zero p q (f x) (g x) k (e x) l.0, nonnegative_along xs l.1)

  pub nonnegative_zero : (f : X → ℤ) → ((x : X) → f x ≡ pos 0) → (xs : List X) → IsNonnegative (map f xs)
  nonnegative_zero f h [] = tt
  nonnegative_zero f h (x ∷ xs) = inr (h x, nonnegative_zero f h xs)

  -- the sum of positive multiples of lists that are not negative
  module _ (p q : ℤ) (h : pos 0 <ℤ p) (k : pos 0 <ℤ q) (f g : X → ℤ) where
    pub nonnegative_sum : (xs : List X) → IsNonnegative (map f xs) → IsNonnegative (map g xs) →
        IsNonnegative (map (λ x. p *ℤ f x +ℤ q *ℤ g x) xs)
    nonnegative_sum [] l m = tt
    nonnegative_sum (x ∷ xs) (inl l) (inl m) = inl (sum_positive p q (f x) (g x) h k l m)
    nonnegative_sum (x ∷ xs) (inl l) (inr m) = inl (first_positive p q (f x) (g x) h l m.0)
    nonnegative_sum (x ∷ xs) (inr l) (inl m) = inl (last_positive p q (f x) (g x) k l.0 m)
    nonnegative_sum (x ∷ xs) (inr l) (inr m) =
        inr (sum_of_zeros p q (f x) (g x) l.0 m.0, nonnegative_sum xs l.1 m.1)
