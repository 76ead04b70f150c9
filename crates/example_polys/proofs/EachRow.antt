-- What holds of each row of a list that is made row by row.
use Rattle.std.proofs.Common.{ℕ, zero, suc, ◌+◌, ◌<◌, List, [], ◌∷◌, ◌++◌, map, arith}
use Rattle.std.specs.List.{flat_map, range_with_len, AllByRecursion}
use Rattle.poly_num.specs.Vectors.{Vector}

module _ (P : Vector → Type 0) where
  pub all_both : (xs ys : List Vector) → AllByRecursion P xs → AllByRecursion P ys → AllByRecursion P (xs ++ ys)
  all_both [] ys p q = q
  all_both (x ∷ xs) ys p q = (p.0, all_both xs ys p.1 q)

  pub all_rows : (f : ℕ → Vector) (a n : ℕ) → ((i : ℕ) → i < a + n → P (f i)) →
      AllByRecursion P (map f (range_with_len a n))
  all_rows f a zero h = tt
  all_rows f a (suc n) h =
      let here : a < a + suc n = omega arith in
      (h a here, all_rows f (a + 1) n (λ i below. let in_all : i < a + suc n = omega (arith, below) in h i in_all))

  pub all_groups : (f : ℕ → List Vector) (a n : ℕ) → ((i : ℕ) → i < a + n → AllByRecursion P (f i)) →
      AllByRecursion P (flat_map f (range_with_len a n))
  all_groups f a zero h = tt
  all_groups f a (suc n) h =
      let here : a < a + suc n = omega arith in
      all_both (f a) _ (h a here)
      (all_groups f (a + 1) n (λ i below. let in_all : i < a + suc n = omega (arith, below) in h i in_all))
