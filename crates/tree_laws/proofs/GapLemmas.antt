-- Lists over positive factors, compared by their gaps: an order, total, with all of its laws.
use Rattle.std.proofs.Common.{◌≡◌, ◌⊎◌, inl, inr, suc, ℤ, pos, ◌+ℤ◌, ◌-ℤ◌, ◌*ℤ◌, neg_ℤ, ◌<ℤ◌, List, [], ◌∷◌, ◌++◌, map, length, refl, sym, ap, subst, arith}
use Rattle.poly_num.specs.Vectors.{IsZero, scale}
use Rattle.poly_num.proofs.Ring.{expand, lin}
use Rattle.poly_model.specs.LexOrder.{IsNonnegative, IsPositive, gaps}
use Rattle.linear_laws.proofs.Combinations.{combination}
use Rattle.tree_laws.proofs.LexLemmas.{positive_is_nonnegative, list_by_sign, nonnegative_or_below, zero_if_both, nonnegative_combination, positive_combination, combination_positive, nonnegative_scaled, positive_scaled}

-- ---- gaps and combinations
minus_product : (p x q y : ℤ) → p *ℤ x -ℤ q *ℤ y ≡ p *ℤ x +ℤ neg_ℤ q *ℤ y
minus_product p x q y = simp expand (omega (arith, lin))

pub gaps_are_combination : (p : ℤ) (u : List ℤ) (q : ℤ) (v : List ℤ) → length u ≡ length v →
    gaps p u q v ≡ combination p u (neg_ℤ q) v
gaps_are_combination p [] q [] l = refl
gaps_are_combination p [] q (y ∷ v) l = absurd (omega arith)
gaps_are_combination p (x ∷ u) q [] l = absurd (omega arith)
gaps_are_combination p (x ∷ u) q (y ∷ v) l =
    let e = minus_product p x q y in
    let f = gaps_are_combination p u q v (omega arith) in
    cc

plus_product : (p x q y : ℤ) → p *ℤ x +ℤ q *ℤ y ≡ p *ℤ x -ℤ neg_ℤ q *ℤ y
plus_product p x q y = simp expand (omega (arith, lin))

pub combination_is_gaps : (p : ℤ) (u : List ℤ) (q : ℤ) (v : List ℤ) → length u ≡ length v →
    combination p u q v ≡ gaps p u (neg_ℤ q) v
combination_is_gaps p [] q [] l = refl
combination_is_gaps p [] q (y ∷ v) l = absurd (omega arith)
combination_is_gaps p (x ∷ u) q [] l = absurd (omega arith)
combination_is_gaps p (x ∷ u) q (y ∷ v) l =
    let e = plus_product p x q y in
    let f = combination_is_gaps p u q v (omega arith) in
    cc

pub length-gaps : (p : ℤ) (u : List ℤ) (q : ℤ) (v : List ℤ) → length u ≡ length v →
    length (gaps p u q v) ≡ length u
length-gaps p [] q v l = refl
length-gaps p (x ∷ u) q [] l = sym l
length-gaps p (x ∷ u) q (y ∷ v) l = ap suc (length-gaps p u q v (omega arith))

-- ---- of two lists
turned : (a b : ℤ) → neg_ℤ (a -ℤ b) ≡ b -ℤ a
turned a b = omega (arith, lin)

pub gaps_turned : (p : ℤ) (u : List ℤ) (q : ℤ) (v : List ℤ) → map neg_ℤ (gaps p u q v) ≡ gaps q v p u
gaps_turned p [] q [] = refl
gaps_turned p [] q (y ∷ v) = refl
gaps_turned p (x ∷ u) q [] = refl
gaps_turned p (x ∷ u) q (y ∷ v) =
    let e = turned (p *ℤ x) (q *ℤ y) in
    let f = gaps_turned p u q v in
    cc

pub gaps_of_itself : (p : ℤ) (u : List ℤ) → IsZero (gaps p u p u)
gaps_of_itself p [] = tt
gaps_of_itself p (x ∷ u) = (none (p *ℤ x), gaps_of_itself p u)
  where
    none : (a : ℤ) → a -ℤ a ≡ pos 0
    none a = omega (arith, lin)

pub gaps_by_sign : (p : ℤ) (u : List ℤ) (q : ℤ) (v : List ℤ) →
    IsPositive (gaps p u q v) ⊎ (IsZero (gaps p u q v) ⊎ IsPositive (gaps q v p u))
gaps_by_sign p u q v =
    subst (λ g. IsPositive (gaps p u q v) ⊎ (IsZero (gaps p u q v) ⊎ IsPositive g)) (gaps_turned p u q v)
    (list_by_sign (gaps p u q v))

pub gaps_total : (p : ℤ) (u : List ℤ) (q : ℤ) (v : List ℤ) →
    IsNonnegative (gaps p u q v) ⊎ IsPositive (gaps q v p u)
gaps_total p u q v =
    subst (λ g. IsNonnegative (gaps p u q v) ⊎ IsPositive g) (gaps_turned p u q v)
    (nonnegative_or_below (gaps p u q v))

pub gaps_antisymmetric : (p : ℤ) (u : List ℤ) (q : ℤ) (v : List ℤ) →
    IsNonnegative (gaps p u q v) → IsNonnegative (gaps q v p u) → IsZero (gaps p u q v)
gaps_antisymmetric p u q v h k =
    zero_if_both (gaps p u q v) h (subst IsNonnegative (sym (gaps_turned p u q v)) k)

pub zero_turned : (p : ℤ) (u : List ℤ) (q : ℤ) (v : List ℤ) → IsZero (gaps p u q v) → IsZero (gaps q v p u)
zero_turned p [] q [] z = tt
zero_turned p [] q (y ∷ v) z = tt
zero_turned p (x ∷ u) q [] z = tt
zero_turned p (x ∷ u) q (y ∷ v) z =
    (let e : p *ℤ x -ℤ q *ℤ y ≡ pos 0 = z.0 in omega (arith, lin), zero_turned p u q v z.1)

-- ---- of three lists: q (p w - r u) = p (q w - r v) + r (p v - q u)
step_over : (p q r x y z : ℤ) →
    q *ℤ (p *ℤ z -ℤ r *ℤ x) ≡ p *ℤ (q *ℤ z -ℤ r *ℤ y) +ℤ r *ℤ (p *ℤ y -ℤ q *ℤ x)
step_over p q r x y z = simp expand (omega (arith, lin))

pub gaps_over : (p : ℤ) (u : List ℤ) (q : ℤ) (v : List ℤ) (r : ℤ) (w : List ℤ) →
    length u ≡ length v → length v ≡ length w →
    scale q (gaps p w r u) ≡ combination p (gaps q w r v) r (gaps p v q u)
gaps_over p [] q [] r [] l m = refl
gaps_over p [] q (y ∷ v) r w l m = absurd (omega arith)
gaps_over p (x ∷ u) q [] r w l m = absurd (omega arith)
gaps_over p [] q [] r (z ∷ w) l m = absurd (omega arith)
gaps_over p (x ∷ u) q (y ∷ v) r [] l m = absurd (omega arith)
gaps_over p (x ∷ u) q (y ∷ v) r (z ∷ w) l m =
    let e = step_over p q r x y z in
    let f = gaps_over p u q v r w (omega arith) (omega arith) in
    cc

-- u over p is at most v over q where p v - q u is not negative
module _ (p : ℤ) (u : List ℤ) (q : ℤ) (v : List ℤ) (r : ℤ) (w : List ℤ) (hp : pos 0 <ℤ p) (hq : pos 0 <ℤ q)
    (hr : pos 0 <ℤ r) (l : length u ≡ length v) (m : length v ≡ length w) where
  pub gaps_transitive : IsNonnegative (gaps p v q u) → IsNonnegative (gaps q w r v) → IsNonnegative (gaps p w r u)
  gaps_transitive h k =
      nonnegative_scaled q (gaps p w r u) hq (subst IsNonnegative (sym (gaps_over p u q v r w l m))
      (nonnegative_combination p (gaps q w r v) r (gaps p v q u) (omega (arith, lin)) (omega (arith, lin)) k h))

  pub below_then_at_most : IsPositive (gaps p v q u) → IsNonnegative (gaps q w r v) → IsPositive (gaps p w r u)
  below_then_at_most h k =
      positive_scaled q (gaps p w r u) hq (subst IsPositive (sym (gaps_over p u q v r w l m))
      (combination_positive p (gaps q w r v) r (gaps p v q u) (omega (arith, lin)) hr k h))

  pub at_most_then_below : IsNonnegative (gaps p v q u) → IsPositive (gaps q w r v) → IsPositive (gaps p w r u)
  at_most_then_below h k =
      positive_scaled q (gaps p w r u) hq (subst IsPositive (sym (gaps_over p u q v r w l m))
      (positive_combination p (gaps q w r v) r (gaps p v q u) hp (omega (arith, lin)) k h))

  pub below_transitive : IsPositive (gaps p v q u) → IsPositive (gaps q w r v) → IsPositive (gaps p w r u)
  below_transitive h k = at_most_then_below (positive_is_nonnegative (gaps p v q u) h) k

-- ---- lists one after the other
pub length_values : {X : Type 0} (f g : X → ℤ) (xs : List X) → length (map f xs) ≡ length (map g xs)
length_values {X} f g [] = refl
length_values {X} f g (x ∷ xs) = ap suc (length_values f g xs)

pub gaps-append : (p : ℤ) (u s : List ℤ) (q : ℤ) (v t : List ℤ) → length u ≡ length v →
    gaps p (u ++ s) q (v ++ t) ≡ gaps p u q v ++ gaps p s q t
gaps-append p [] s q [] t l = refl
gaps-append p [] s q (y ∷ v) t l = absurd (omega arith)
gaps-append p (x ∷ u) s q [] t l = absurd (omega arith)
gaps-append p (x ∷ u) s q (y ∷ v) t l =
    ap (λ g. (p *ℤ x -ℤ q *ℤ y) ∷ g) (gaps-append p u s q v t (omega arith))

pub positive_in_front : (xs ys : List ℤ) → IsPositive xs → IsPositive (xs ++ ys)
positive_in_front [] ys h = absurd h
positive_in_front (x ∷ xs) ys (inl h) = inl h
positive_in_front (x ∷ xs) ys (inr h) = inr (h.0, positive_in_front xs ys h.1)

pub positive_behind : (xs ys : List ℤ) → IsZero xs → IsPositive ys → IsPositive (xs ++ ys)
positive_behind [] ys z h = h
positive_behind (x ∷ xs) ys z h = inr (z.0, positive_behind xs ys z.1 h)

pub zero_behind : (xs ys : List ℤ) → IsZero xs → IsZero ys → IsZero (xs ++ ys)
zero_behind [] ys z h = h
zero_behind (x ∷ xs) ys z h = (z.0, zero_behind xs ys z.1 h)
