-- The dot product is linear in both vectors and symmetric, for lists of any lengths.
use Rattle.std.proofs.Common.{◌≡◌, ◌≢◌, ℕ, ◌+◌, suc, zero, ◌<◌, ℤ, pos, ◌+ℤ◌, ◌*ℤ◌, neg_ℤ, [], ◌∷◌, map, length, take, get_or, add-one, refl, sym, ap, ◌∙◌, arith, replicate}
use Rattle.std.proofs.lemmas.Int.{ints}
use Rattle.poly_num.specs.Vectors.{Vector, ◌·◌, scale, sum_of, IsZero}
use Rattle.poly_num.proofs.Ring.{expand, lin, mul_assoc, mul_zero, one_mul, add_zero, zero_add, zero_mul}
use Rattle.poly_num.proofs.Order.{zero_factor, cancel}

pub dot-nil : (u : Vector) → u · [] ≡ pos 0
dot-nil [] = refl
dot-nil (x ∷ u) = refl

pub zeros-dot : (m : ℕ) (z : Vector) → replicate m (pos 0) · z ≡ pos 0
zeros-dot zero z = refl
zeros-dot (suc m) [] = refl
zeros-dot (suc m) (x ∷ z) = omega (arith, lin, zero_mul x, zeros-dot m z)

pub dot_comm : (u v : Vector) → u · v ≡ v · u
dot_comm [] [] = refl
dot_comm [] (y ∷ v) = refl
dot_comm (x ∷ u) [] = refl
dot_comm (x ∷ u) (y ∷ v) = let h = dot_comm u v in simp expand (omega (arith, lin))

pub dot-sum : (g u v : Vector) → g · sum_of u v ≡ g · u +ℤ g · v
dot-sum [] u v = refl
dot-sum (x ∷ g) [] v = sym (zero_add _)
dot-sum (x ∷ g) (a ∷ u) [] = sym (add_zero _)
dot-sum (x ∷ g) (a ∷ u) (b ∷ v) = let h = dot-sum g u v in simp expand (omega (arith, lin))

pub dot-scale : (g : Vector) (p : ℤ) (v : Vector) → g · scale p v ≡ p *ℤ (g · v)
dot-scale [] p v = sym (mul_zero p)
dot-scale (x ∷ g) p [] = sym (mul_zero p)
dot-scale (x ∷ g) p (a ∷ v) = let h = dot-scale g p v in simp (expand, h) (omega (arith, lin))

pub sum-dot : (u v g : Vector) → sum_of u v · g ≡ u · g +ℤ v · g
sum-dot u v g =
    dot_comm (sum_of u v) g ∙ dot-sum g u v ∙ ap (λ z. z +ℤ g · v) (dot_comm g u) ∙ ap (λ z. u · g +ℤ z) (dot_comm g v)

pub scale-dot : (p : ℤ) (u v : Vector) → scale p u · v ≡ p *ℤ (u · v)
scale-dot p u v = dot_comm (scale p u) v ∙ dot-scale v p u ∙ ap (λ z. p *ℤ z) (dot_comm v u)

pub dot-neg : (g v : Vector) → g · map neg_ℤ v ≡ neg_ℤ (g · v)
dot-neg [] v = refl
dot-neg (x ∷ g) [] = refl
dot-neg (x ∷ g) (a ∷ v) = let h = dot-neg g v in simp (expand, h)

pub length-scale : (p : ℤ) (v : Vector) → length (scale p v) ≡ length v
length-scale p [] = refl
length-scale p (x ∷ v) = ap suc (length-scale p v)

pub length-sum : (u v : Vector) → length u ≡ length v → length (sum_of u v) ≡ length u
length-sum [] v h = sym h
length-sum (x ∷ u) [] h = refl
length-sum (x ∷ u) (y ∷ v) h = ap suc (length-sum u v (omega arith))

pub scale-one : (v : Vector) → scale (pos 1) v ≡ v
scale-one [] = refl
scale-one (x ∷ v) = let e = one_mul x in let f = scale-one v in cc

pub scale-scale : (p q : ℤ) (v : Vector) → scale p (scale q v) ≡ scale (p *ℤ q) v
scale-scale p q [] = refl
scale-scale p q (x ∷ v) = let e = sym (mul_assoc p q x) in let f = scale-scale p q v in cc

pub dot-zero : (g v : Vector) → IsZero v → g · v ≡ pos 0
dot-zero [] v z = refl
dot-zero (x ∷ g) [] z = refl
dot-zero (x ∷ g) (y ∷ v) z =
    ap (λ k. x *ℤ k +ℤ g · v) z.0 ∙ ap (λ k. k +ℤ g · v) (mul_zero x) ∙ zero_add _ ∙ dot-zero g v z.1

pub zero-scale : (p : ℤ) (v : Vector) → IsZero v → IsZero (scale p v)
zero-scale p [] z = tt
zero-scale p (x ∷ v) z = (ap (λ k. p *ℤ k) z.0 ∙ mul_zero p, zero-scale p v z.1)

pub zero_from_scale : (p : ℤ) (v : Vector) → p ≢ pos 0 → IsZero (scale p v) → IsZero v
zero_from_scale p [] n z = tt
zero_from_scale p (x ∷ v) n z = (zero_factor p x z.0 n, zero_from_scale p v n z.1)

pub scale_cancel : (p : ℤ) (u v : Vector) → p ≢ pos 0 → scale p u ≡ scale p v → u ≡ v
scale_cancel p [] [] n e = refl
scale_cancel p [] (y ∷ v) n e = absurd (cc)
scale_cancel p (x ∷ u) [] n e = absurd (cc)
scale_cancel p (x ∷ u) (y ∷ v) n e =
    let h : p *ℤ x ≡ p *ℤ y = cc in let t : scale p u ≡ scale p v = cc in
    let f = cancel p x y n h in let g = scale_cancel p u v n t in
    cc

-- vectors of one length on which every form agrees are one
pub same_by_forms : (u v : Vector) → length u ≡ length v → ((g : Vector) → g · u ≡ g · v) → u ≡ v
same_by_forms [] [] h e = refl
same_by_forms [] (y ∷ v) h e = absurd (omega arith)
same_by_forms (x ∷ u) [] h e = absurd (omega arith)
same_by_forms (x ∷ u) (y ∷ v) h e =
    let first : x ≡ y = head_same x y (e (pos 1 ∷ [])) in
    let rest : u ≡ v = same_by_forms u v (omega arith) (λ g. sym (tail_is x g u) ∙ e (pos 0 ∷ g) ∙ tail_is y g v) in
    cc
  where
    head_same : (x y : ℤ) → pos 1 *ℤ x +ℤ pos 0 ≡ pos 1 *ℤ y +ℤ pos 0 → x ≡ y
    head_same x y h = omega (arith, ints)

    tail_is : (x : ℤ) (g u : Vector) → pos 0 *ℤ x +ℤ g · u ≡ g · u
    tail_is x g u = ap (λ s. s +ℤ g · u) (zero_mul x) ∙ zero_add _

dot-take-suc : (i : ℕ) (u v : Vector) → i < length u → i < length v →
    take (suc i) u · take (suc i) v ≡ take i u · take i v +ℤ get_or u i (pos 0) *ℤ get_or v i (pos 0)
dot-take-suc i [] v h k = absurd (omega arith)
dot-take-suc i (x ∷ u) [] h k = absurd (omega arith)
dot-take-suc zero (x ∷ u) (y ∷ v) h k = omega (arith, lin)
dot-take-suc (suc i) (x ∷ u) (y ∷ v) h k = omega (arith, lin, dot-take-suc i u v (omega arith) (omega arith))

-- one term more of the dot product of the first so many entries
pub dot_more : (i : ℕ) (u v : Vector) → i < length u → i < length v →
    take (i + 1) u · take (i + 1) v ≡ take i u · take i v +ℤ get_or u i (pos 0) *ℤ get_or v i (pos 0)
dot_more i u v h k = rw (add-one) (dot-take-suc i u v h k)
