-- From a vector y of a cone along a direction w: the first row that is met.
--
-- At -(g · w) y + (g · y) w the row g is 0. If g is negative at w, and of the rows that are so it is
-- one with the least (g · y) / -(g · w), then the vector lies in the cone.
use Rattle.std.proofs.Common.{◌≡◌, ◌⊎◌, inl, inr, ℕ, ℤ, pos, ◌+ℤ◌, ◌*ℤ◌, neg_ℤ, ◌≤ℤ◌, ◌<ℤ◌, List, [], ◌∷◌, length, ap, ◌∙◌, arith}
use Rattle.std.proofs.lemmas.Int.{ints, by_lt_z}
use Rattle.std.specs.List.{AllByRecursion, Contains}
use Rattle.poly_num.specs.Vectors.{Vector, ◌·◌}
use Rattle.poly_num.proofs.Ring.{expand, lin, mul_zero, zero_mul}
use Rattle.poly_num.proofs.Order.{keeps_at_most, gives_at_most}
use Rattle.poly_model.specs.Independence.{Vanish}
use Rattle.linear_laws.proofs.Members.{Contains-first, Contains-later}
use Rattle.linear_laws.proofs.Combinations.{combination, dot-combination, length-combination, vanish_combination}

-- ---- numbers
pub nonnegative_product : (a b : ℤ) → pos 0 <ℤ a → pos 0 ≤ℤ b → pos 0 ≤ℤ (a *ℤ b)
nonnegative_product a b h k = let m = keeps_at_most a (pos 0) b h k in omega (arith, lin, mul_zero a)

pub nonnegative_factor : (a b : ℤ) → pos 0 <ℤ a → pos 0 ≤ℤ (a *ℤ b) → pos 0 ≤ℤ b
nonnegative_factor a b h k = gives_at_most a (pos 0) b h (omega (arith, lin, mul_zero a))

pub both_nonnegative : (a b : ℤ) → pos 0 ≤ℤ a → pos 0 ≤ℤ b → pos 0 ≤ℤ (a *ℤ b)
both_nonnegative a b h k =
    by_lt_z (pos 0) a (λ p. nonnegative_product a b p k)
    (λ n. let e : a ≡ pos 0 = omega (arith, lin) in rw (e, zero_mul) (omega (arith, ints)))

-- a nearer row k in the place of g: what a further row l has at the vectors of k, g, and k at that of g
trade : (gw gy kw ky lw ly : ℤ) →
    neg_ℤ gw *ℤ (neg_ℤ kw *ℤ ly +ℤ ky *ℤ lw) ≡
    neg_ℤ kw *ℤ (neg_ℤ gw *ℤ ly +ℤ gy *ℤ lw) +ℤ neg_ℤ lw *ℤ neg_ℤ (neg_ℤ gw *ℤ ky +ℤ gy *ℤ kw)
trade gw gy kw ky lw ly = simp expand (omega (arith, lin))

module _ (y w : Vector) where
  -- the vector at which g is met
  pub met_at : Vector → Vector
  met_at g = combination (neg_ℤ (g · w)) y (g · y) w

  pub dot-met_at : (l g : Vector) → l · met_at g ≡ neg_ℤ (g · w) *ℤ (l · y) +ℤ (g · y) *ℤ (l · w)
  unfolding met_at
  dot-met_at l g = dot-combination l (neg_ℤ (g · w)) y (g · y) w

  pub length-met_at : (n : ℕ) (g : Vector) → length y ≡ n → length w ≡ n → length (met_at g) ≡ n
  unfolding met_at
  length-met_at n g h k = length-combination n (neg_ℤ (g · w)) y (g · y) w h k

  pub vanish-met_at : (ks : List Vector) (g : Vector) → Vanish ks y → Vanish ks w → Vanish ks (met_at g)
  unfolding met_at
  vanish-met_at ks g h k = vanish_combination ks (neg_ℤ (g · w)) y (g · y) w h k

  pub met_itself : (g : Vector) → g · met_at g ≡ pos 0
  met_itself g = dot-met_at g g ∙ none (g · w) (g · y)
    where
      none : (a b : ℤ) → neg_ℤ a *ℤ b +ℤ b *ℤ a ≡ pos 0
      none a b = simp expand (omega (arith, lin))

  -- g is negative at w, and the rows are not negative where it is met
  pub record IsNearest (g : Vector) (gs : List Vector) : Type 0 where
    pub down : (g · w) <ℤ pos 0
    pub above : pos 0 ≤ℤ (g · y)
    pub nearest : AllByRecursion (λ l. pos 0 ≤ℤ (l · met_at g)) gs

  pub record Nearest (gs : List Vector) : Type 0 where
    pub row : Vector
    pub member : Contains gs row
    pub is : IsNearest row gs

  -- a row that is not negative at w is not negative where g is met
  stays : (l g : Vector) → (g · w) <ℤ pos 0 → pos 0 ≤ℤ (g · y) → pos 0 ≤ℤ (l · y) → pos 0 ≤ℤ (l · w) →
      pos 0 ≤ℤ (l · met_at g)
  stays l g d a hy hw =
      let down : pos 0 <ℤ neg_ℤ (g · w) = omega (arith, lin) in
      let p = nonnegative_product (neg_ℤ (g · w)) (l · y) down hy in
      let q = both_nonnegative (g · y) (l · w) a hw in
      omega (arith, lin, dot-met_at l g)

  -- where k is negative where g is met, k is nearer
  nearer : (g k : Vector) → (g · w) <ℤ pos 0 → (k · w) <ℤ pos 0 → pos 0 ≤ℤ (k · y) → (k · met_at g) <ℤ pos 0 →
      (gs : List Vector) → AllByRecursion (λ l. pos 0 ≤ℤ (l · y)) gs →
      AllByRecursion (λ l. pos 0 ≤ℤ (l · met_at g)) gs → AllByRecursion (λ l. pos 0 ≤ℤ (l · met_at k)) gs
  nearer g k dg dk ak less [] cone h = tt
  nearer g k dg dk ak less (l ∷ gs) cone h = (
    by_lt_z (l · w) (pos 0) falls (λ up. stays l k dk ak cone.0 up),
    nearer g k dg dk ak less gs cone.1 h.1,
  )
    where
      falls : (l · w) <ℤ pos 0 → pos 0 ≤ℤ (l · met_at k)
      falls dl =
          let ng : pos 0 <ℤ neg_ℤ (g · w) = omega (arith, lin) in
          let nk : pos 0 <ℤ neg_ℤ (k · w) = omega (arith, lin) in
          let nl : pos 0 <ℤ neg_ℤ (l · w) = omega (arith, lin) in
          let short : pos 0 ≤ℤ neg_ℤ (k · met_at g) = omega (arith, lin) in
          let p = nonnegative_product (neg_ℤ (k · w)) (l · met_at g) nk h.0 in
          let q = nonnegative_product (neg_ℤ (l · w)) (neg_ℤ (k · met_at g)) nl short in
          nonnegative_factor (neg_ℤ (g · w)) (l · met_at k) ng (sum_is p q)
        where
          sum_is : pos 0 ≤ℤ (neg_ℤ (k · w) *ℤ (l · met_at g)) → pos 0 ≤ℤ (neg_ℤ (l · w) *ℤ neg_ℤ (k · met_at g)) →
              pos 0 ≤ℤ (neg_ℤ (g · w) *ℤ (l · met_at k))
          sum_is p q =
              let t = trade (g · w) (g · y) (k · w) (k · y) (l · w) (l · y) in
              let e = ap (λ t. neg_ℤ (g · w) *ℤ t) (dot-met_at l k) in
              let f = ap (λ t. neg_ℤ (k · w) *ℤ t) (dot-met_at l g) in
              let h = ap (λ t. neg_ℤ (l · w) *ℤ neg_ℤ t) (dot-met_at k g) in
              omega (arith, lin)

  -- of rows none of which is negative at y, one is met first, or none is negative at w
  pub nearest_row : (gs : List Vector) → AllByRecursion (λ l. pos 0 ≤ℤ (l · y)) gs →
      AllByRecursion (λ l. pos 0 ≤ℤ (l · w)) gs ⊎ Nearest gs
  nearest_row [] cone = inl tt
  nearest_row (k ∷ gs) cone = by (nearest_row gs cone.1)
    where
      self : pos 0 ≤ℤ (k · met_at k)
      self = let e = met_itself k in omega (arith, lin)

      first : IsNearest k (k ∷ gs) → Nearest (k ∷ gs)
      first i = record { row = k; member = Contains-first k gs; is = i }

      kept : (n : Nearest gs) → pos 0 ≤ℤ (k · met_at n.row) → Nearest (k ∷ gs)
      kept n h = record {
        row = n.row;
        member = Contains-later n.row k gs n.member;
        is = record { down = n.is.down; above = n.is.above; nearest = (h, n.is.nearest) };
      }

      by : AllByRecursion (λ l. pos 0 ≤ℤ (l · w)) gs ⊎ Nearest gs →
          AllByRecursion (λ l. pos 0 ≤ℤ (l · w)) (k ∷ gs) ⊎ Nearest (k ∷ gs)
      by (inl h) =
          by_lt_z (k · w) (pos 0)
          (λ d. inr (first (record { down = d; above = cone.0; nearest = (self, all_stay gs cone.1 h d) })))
          (λ up. inl (up, h))
        where
          all_stay : (ls : List Vector) → AllByRecursion (λ l. pos 0 ≤ℤ (l · y)) ls →
              AllByRecursion (λ l. pos 0 ≤ℤ (l · w)) ls → (k · w) <ℤ pos 0 →
              AllByRecursion (λ l. pos 0 ≤ℤ (l · met_at k)) ls
          all_stay [] a b d = tt
          all_stay (l ∷ ls) a b d = (stays l k d cone.0 a.0 b.0, all_stay ls a.1 b.1 d)
      by (inr n) =
          by_lt_z (k · w) (pos 0)
          (λ d. by_lt_z (k · met_at n.row) (pos 0)
          (λ less. inr (first (record {
            down = d;
            above = cone.0;
            nearest = (self, nearer n.row k n.is.down d cone.0 less gs cone.1 n.is.nearest);
          })))
          (λ more. inr (kept n more)))
          (λ up. inr (kept n (stays k n.row n.is.down n.is.above cone.0 up)))
