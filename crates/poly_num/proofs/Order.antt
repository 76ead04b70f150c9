-- A product is 0 only where a factor is; a factor other than 0 cancels; a positive factor keeps
-- the order and gives it back.
use Rattle.std.proofs.Common.{◌≡◌, ◌≢◌, zero, suc, ℤ, pos, negsuc, ◌-ℤ◌, ◌*ℤ◌, arith, refl, ap, sym, ◌∙◌}
use Rattle.std.specs.Prelude.{◌≤ℤ◌, ◌<ℤ◌, unsigned_abs}
use Rattle.std.proofs.lemmas.Int.{ints, by_lt_z, unsigned_abs-mul}
use Rattle.poly_num.proofs.Ring.{expand, lin, mul_zero}

pub zero_factor : (p x : ℤ) → p *ℤ x ≡ pos 0 → p ≢ pos 0 → x ≡ pos 0
zero_factor p (pos zero) e n = refl
zero_factor (pos zero) (pos (suc x)) e n = absurd (n refl)
zero_factor (pos zero) (negsuc x) e n = absurd (n refl)
zero_factor (pos (suc p)) (pos (suc x)) e n = absurd (let f = ap unsigned_abs e in omega arith)
zero_factor (pos (suc p)) (negsuc x) e n =
    absurd (let f = sym (unsigned_abs-mul (pos (suc p)) (negsuc x)) ∙ ap unsigned_abs e in omega arith)
zero_factor (negsuc p) (pos (suc x)) e n =
    absurd (let f = sym (unsigned_abs-mul (negsuc p) (pos (suc x))) ∙ ap unsigned_abs e in omega arith)
zero_factor (negsuc p) (negsuc x) e n = absurd (let f = ap unsigned_abs e in omega arith)

pub mul_nonzero : (a b : ℤ) → a ≢ pos 0 → b ≢ pos 0 → a *ℤ b ≢ pos 0
mul_nonzero a b m n e = n (zero_factor a b e m)

pub cancel : (p x y : ℤ) → p ≢ pos 0 → p *ℤ x ≡ p *ℤ y → x ≡ y
cancel p x y n e =
    let z : p *ℤ (x -ℤ y) ≡ pos 0 = simp expand (omega (arith, lin)) in
    let f = zero_factor p (x -ℤ y) z n in
    omega (arith, lin)

pub positive_nonzero : (p : ℤ) → pos 0 <ℤ p → p ≢ pos 0
positive_nonzero p h e = omega (arith, lin)

pub positive_product : (x y : ℤ) → pos 0 <ℤ x → pos 0 <ℤ y → pos 0 <ℤ (x *ℤ y)
positive_product (pos (suc x)) (pos (suc y)) p q = omega (arith, ints)
positive_product (pos zero) y p q = absurd (omega (arith, ints))
positive_product (negsuc x) y p q = absurd (omega (arith, ints))
positive_product (pos (suc x)) (pos zero) p q = absurd (omega (arith, ints))
positive_product (pos (suc x)) (negsuc y) p q = absurd (omega (arith, ints))

pub keeps_order : (p x y : ℤ) → pos 0 <ℤ p → x <ℤ y → (p *ℤ x) <ℤ (p *ℤ y)
keeps_order p x y h l =
    let d : pos 0 <ℤ (y -ℤ x) = omega (arith, lin) in
    let k = simp expand at (positive_product p (y -ℤ x) h d) in
    omega (arith, lin)

pub keeps_at_most : (p x y : ℤ) → pos 0 <ℤ p → x ≤ℤ y → (p *ℤ x) ≤ℤ (p *ℤ y)
keeps_at_most p x y h l =
    by_lt_z x y
    (λ k. let m = keeps_order p x y h k in omega (arith, lin))
    (λ k. let e : x ≡ y = omega (arith, lin) in rw e (omega (arith, lin)))

pub gives_order : (p x y : ℤ) → pos 0 <ℤ p → (p *ℤ x) <ℤ (p *ℤ y) → x <ℤ y
gives_order p x y h l =
    by_lt_z x y (λ k. k) (λ k. absurd (let m = keeps_at_most p y x h k in omega (arith, lin)))

pub gives_at_most : (p x y : ℤ) → pos 0 <ℤ p → (p *ℤ x) ≤ℤ (p *ℤ y) → x ≤ℤ y
gives_at_most p x y h l =
    by_lt_z y x (λ k. absurd (let m = keeps_order p y x h k in omega (arith, lin))) (λ k. k)

pub positive_factor : (p x : ℤ) → pos 0 <ℤ p → pos 0 <ℤ (p *ℤ x) → pos 0 <ℤ x
positive_factor p x h l = gives_order p (pos 0) x h (rw mul_zero l)
