-- The members of a list, from its first element on; ascending lists with the same members are equal; equal lists have
-- equal first elements and equal others.
use Rattle.std.proofs.Common.{◌≡◌, ◌⊎◌, inl, inr, ⊎_elim, ℕ, zero, suc, ◌<◌, ◌≤◌, List, [], ◌∷◌, refl, sym, subst, arith, Bool, true, false, cond}
use Rattle.std.proofs.lemmas.Bool.{cases_lt}
use Rattle.std.specs.List.{Contains, AllByRecursion}
use Rattle.poly_model.specs.Keys.{IsAscending}

module _ {X : Type 0} where
  pub same_first : (x y : X) (xs ys : List X) → (x ∷ xs) ≡ (y ∷ ys) → x ≡ y
  same_first x y xs ys e = cc

  pub same_others : (x y : X) (xs ys : List X) → (x ∷ xs) ≡ (y ∷ ys) → xs ≡ ys
  same_others x y xs ys e = cc

  pub Contains-nil : (x : X) → Contains [] x → ⊥
  Contains-nil x h = let l = h.1 in omega arith

  pub Contains-first : (x : X) (xs : List X) → Contains (x ∷ xs) x
  Contains-first x xs = (0, omega arith, refl)

  pub Contains-later : (y x : X) (xs : List X) → Contains xs y → Contains (x ∷ xs) y
  Contains-later y x xs h = let l = h.1 in (suc h.0, omega arith, h.2)

  pub Contains-cons_cases : (y x : X) (xs : List X) → Contains (x ∷ xs) y → (x ≡ y) ⊎ Contains xs y
  Contains-cons_cases y x xs (zero, l, e) = inl e
  Contains-cons_cases y x xs (suc k, l, e) = inr (k, omega arith, e)

  pub all_at : (P : X → Type 0) (xs : List X) → AllByRecursion P xs → (x : X) → Contains xs x → P x
  all_at P [] h x c = absurd (Contains-nil x c)
  all_at P (y ∷ xs) h x (zero, l, e) = subst P e h.0
  all_at P (y ∷ xs) h x (suc k, l, e) = all_at P xs h.1 x (k, omega arith, e)

-- of two numbers one is less, or they are equal
pub less_or_equal : (a b : ℕ) → (a < b) ⊎ ((b < a) ⊎ (a ≡ b))
less_or_equal a b = by (cases_lt a b) (cases_lt b a)
  where
    by : (a < b) ⊎ (b ≤ a) → (b < a) ⊎ (a ≤ b) → (a < b) ⊎ ((b < a) ⊎ (a ≡ b))
    by (inl h) k = inl h
    by (inr h) (inl k) = inr (inl k)
    by (inr h) (inr k) = inr (inr (omega arith))

-- ---- ascending lists
pub above_first : (x : ℕ) (xs : List ℕ) → IsAscending (x ∷ xs) → (k : ℕ) → Contains xs k → x < k
above_first x xs a k m = all_at (λ y. x < y) xs a.0 k m

first_is_first : (x y : ℕ) (xs ys : List ℕ) → IsAscending (x ∷ xs) → IsAscending (y ∷ ys) →
    Contains (y ∷ ys) x → Contains (x ∷ xs) y → x ≡ y
first_is_first x y xs ys a b m k = by (Contains-cons_cases x y ys m) (Contains-cons_cases y x xs k)
  where
    by : (y ≡ x) ⊎ Contains ys x → (x ≡ y) ⊎ Contains xs y → x ≡ y
    by (inl e) q = sym e
    by (inr m) (inl e) = e
    by (inr m) (inr k) = absurd (omega (arith, above_first y ys b x m, above_first x xs a y k))

others_are_others : (x y : ℕ) (xs ys : List ℕ) → x ≡ y → IsAscending (x ∷ xs) →
    ((k : ℕ) → Contains (x ∷ xs) k → Contains (y ∷ ys) k) → (k : ℕ) → Contains xs k → Contains ys k
others_are_others x y xs ys e a h k m =
    let l = above_first x xs a k m in
    ⊎_elim (λ s. absurd (omega arith)) (λ q. q) (Contains-cons_cases k y ys (h k (Contains-later k x xs m)))

pub ascending_is_one : (xs ys : List ℕ) → IsAscending xs → IsAscending ys →
    ((k : ℕ) → Contains xs k → Contains ys k) → ((k : ℕ) → Contains ys k → Contains xs k) → xs ≡ ys
ascending_is_one [] [] a b h g = refl
ascending_is_one [] (y ∷ ys) a b h g = absurd (Contains-nil y (g y (Contains-first y ys)))
ascending_is_one (x ∷ xs) [] a b h g = absurd (Contains-nil x (h x (Contains-first x xs)))
ascending_is_one (x ∷ xs) (y ∷ ys) a b h g =
    let e : x ≡ y = first_is_first x y xs ys a b (h x (Contains-first x xs)) (g y (Contains-first y ys)) in
    let to = others_are_others x y xs ys e a h in
    let back = others_are_others y x ys xs (sym e) b g in
    let f = ascending_is_one xs ys a.1 b.1 to back in
    cc

-- ---- tests
pub both_true : (a b : Bool) → cond a b false ≡ true → (a ≡ true) × (b ≡ true)
both_true true b h = (refl, h)
both_true false b h = absurd (cc)
