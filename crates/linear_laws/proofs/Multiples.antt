-- A frame stays one where its dual vectors and its denominator are multiplied by one number other
-- than 0, or divided by it.
use Rattle.std.proofs.Common.{◌≡◌, ◌≢◌, ℕ, ℤ, pos, ◌*ℤ◌, List, [], ◌∷◌, map, sym, ap, ◌∙◌, arith}
use Rattle.std.specs.List.{AllByRecursion}
use Rattle.poly_num.specs.Vectors.{Vector, ◌·◌, scale}
use Rattle.poly_num.proofs.Ring.{expand as multiply_out, lin, mul_assoc, mul_zero}
use Rattle.poly_num.proofs.Order.{zero_factor, mul_nonzero, cancel}
use Rattle.poly_num.proofs.VectorLemmas.{dot-scale, length-scale}
use Rattle.poly_model.specs.Independence.{Vanish}
use Rattle.linear_laws.specs.Frames.{scaled, Column, expand, AreApart, AreDual, IsVectorOn, IsFrameOn}
use Rattle.linear_laws.proofs.Combinations.{inside_scale, zero_at_scale}

pub expand-scaled : (p : ℤ) (g y : Vector) (cs : List Column) → expand (map (scaled p) cs) g y ≡ p *ℤ expand cs g y
expand-scaled p g y [] = sym (mul_zero p)
expand-scaled p g y (c ∷ cs) =
    let e = dot-scale g p c.dual in
    let f = expand-scaled p g y cs in
    rw (e, f) (simp multiply_out (omega (arith, lin)))

-- ---- multiplied
scaled_apart : (p : ℤ) (c : Column) (cs : List Column) → AllByRecursion (AreApart c) cs →
    AllByRecursion (AreApart (scaled p c)) (map (scaled p) cs)
scaled_apart p c [] h = tt
scaled_apart p c (e ∷ cs) h =
    ((zero_at_scale c.row p e.dual h.0.0, zero_at_scale e.row p c.dual h.0.1), scaled_apart p c cs h.1)

scaled_dual : (p D : ℤ) (cs : List Column) → AreDual D cs → AreDual (p *ℤ D) (map (scaled p) cs)
scaled_dual p D [] d = tt
scaled_dual p D (c ∷ cs) d =
    (dot-scale c.row p c.dual ∙ ap (λ t. p *ℤ t) d.0, scaled_apart p c cs d.1, scaled_dual p D cs d.2)

scaled_inside : (n : ℕ) (fixed : List Vector) (p : ℤ) (cs : List Column) →
    AllByRecursion (λ c. IsVectorOn n fixed c.dual) cs →
    AllByRecursion (λ c. IsVectorOn n fixed c.dual) (map (scaled p) cs)
scaled_inside n fixed p [] h = tt
scaled_inside n fixed p (c ∷ cs) h = (inside_scale n fixed p c.dual h.0, scaled_inside n fixed p cs h.1)

pub frame_scaled : {n : ℕ} {fixed : List Vector} {D : ℤ} (p : ℤ) (cs : List Column) → p ≢ pos 0 →
    IsFrameOn n fixed D cs → IsFrameOn n fixed (p *ℤ D) (map (scaled p) cs)
frame_scaled {n} {fixed} {D} p cs h f = record {
  nonzero = mul_nonzero p D h f.nonzero;
  inside = scaled_inside n fixed p cs f.inside;
  duals = scaled_dual p D cs f.duals;
  expands = λ g y i. mul_assoc p D (g · y) ∙ ap (λ t. p *ℤ t) (f.expands g y i) ∙ sym (expand-scaled p g y cs);
}

-- ---- divided
zero_unscaled : (g : Vector) (p : ℤ) (v : Vector) → p ≢ pos 0 → g · scale p v ≡ pos 0 → g · v ≡ pos 0
zero_unscaled g p v n e = zero_factor p (g · v) (sym (dot-scale g p v) ∙ e) n

vanish_unscaled : (gs : List Vector) (p : ℤ) (v : Vector) → p ≢ pos 0 → Vanish gs (scale p v) → Vanish gs v
vanish_unscaled [] p v n h = tt
vanish_unscaled (g ∷ gs) p v n h = (zero_unscaled g p v n h.0, vanish_unscaled gs p v n h.1)

unscaled_inside : (n : ℕ) (fixed : List Vector) (p : ℤ) (cs : List Column) → p ≢ pos 0 →
    AllByRecursion (λ c. IsVectorOn n fixed c.dual) (map (scaled p) cs) →
    AllByRecursion (λ c. IsVectorOn n fixed c.dual) cs
unscaled_inside n fixed p [] nz h = tt
unscaled_inside n fixed p (c ∷ cs) nz h = (
  (sym (length-scale p c.dual) ∙ h.0.0, vanish_unscaled fixed p c.dual nz h.0.1),
  unscaled_inside n fixed p cs nz h.1,
)

unscaled_apart : (p : ℤ) (c : Column) (cs : List Column) → p ≢ pos 0 →
    AllByRecursion (AreApart (scaled p c)) (map (scaled p) cs) → AllByRecursion (AreApart c) cs
unscaled_apart p c [] nz h = tt
unscaled_apart p c (e ∷ cs) nz h =
    ((zero_unscaled c.row p e.dual nz h.0.0, zero_unscaled e.row p c.dual nz h.0.1), unscaled_apart p c cs nz h.1)

unscaled_dual : (p D : ℤ) (cs : List Column) → p ≢ pos 0 → AreDual (p *ℤ D) (map (scaled p) cs) → AreDual D cs
unscaled_dual p D [] nz d = tt
unscaled_dual p D (c ∷ cs) nz d = (
  cancel p (c.row · c.dual) D nz (sym (dot-scale c.row p c.dual) ∙ d.0),
  unscaled_apart p c cs nz d.1,
  unscaled_dual p D cs nz d.2,
)

pub frame_unscaled : {n : ℕ} {fixed : List Vector} (p D : ℤ) (cs : List Column) → p ≢ pos 0 →
    IsFrameOn n fixed (p *ℤ D) (map (scaled p) cs) → IsFrameOn n fixed D cs
frame_unscaled {n} {fixed} p D cs nz f = record {
  nonzero = λ e. f.nonzero (ap (λ t. p *ℤ t) e ∙ mul_zero p);
  inside = unscaled_inside n fixed p cs nz f.inside;
  duals = unscaled_dual p D cs nz f.duals;
  expands = λ g y i.
      cancel p (D *ℤ (g · y)) (expand cs g y) nz
      (sym (mul_assoc p D (g · y)) ∙ f.expands g y i ∙ expand-scaled p g y cs);
}
