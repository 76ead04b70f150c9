-- The combination p u + q v: its value at a form, its width, and the rows that are 0 at it.
use Rattle.std.proofs.Common.{◌≡◌, ℕ, ℤ, pos, ◌+ℤ◌, ◌*ℤ◌, List, [], ◌∷◌, length, sym, ap, ◌∙◌, arith, neg_ℤ}
use Rattle.poly_num.specs.Vectors.{Vector, ◌·◌, scale, sum_of}
use Rattle.poly_num.proofs.Ring.{expand, lin, mul_zero}
use Rattle.poly_num.proofs.VectorLemmas.{dot-sum, dot-scale, length-scale, length-sum}
use Rattle.poly_model.specs.Independence.{Vanish}
use Rattle.linear_laws.specs.Frames.{IsVectorOn}

-- p u + q v
abbrev pub combination : ℤ → Vector → ℤ → Vector → Vector
combination p u q v = sum_of (scale p u) (scale q v)

pub dot-combination : (g : Vector) (p : ℤ) (u : Vector) (q : ℤ) (v : Vector) →
    g · combination p u q v ≡ p *ℤ (g · u) +ℤ q *ℤ (g · v)
dot-combination g p u q v = omega (arith, lin, dot-sum g (scale p u) (scale q v), dot-scale g p u, dot-scale g q v)

pub length-combination : (n : ℕ) (p : ℤ) (u : Vector) (q : ℤ) (v : Vector) → length u ≡ n → length v ≡ n →
    length (combination p u q v) ≡ n
length-combination n p u q v h k =
    length-sum (scale p u) (scale q v) (length-scale p u ∙ h ∙ sym (length-scale q v ∙ k)) ∙ length-scale p u ∙ h

pub zero_combination : (p x q y : ℤ) → x ≡ pos 0 → y ≡ pos 0 → p *ℤ x +ℤ q *ℤ y ≡ pos 0
zero_combination p x q y e f =
    let a = ap (λ t. p *ℤ t) e ∙ mul_zero p in
    let b = ap (λ t. q *ℤ t) f ∙ mul_zero q in
    omega (arith, lin)

-- the multiples of two vectors whose values at one form cancel
pub cancels : (v x : ℤ) → v *ℤ x +ℤ neg_ℤ x *ℤ v ≡ pos 0
cancels v x = simp expand (omega (arith, lin))

pub vanish_combination : (gs : List Vector) (p : ℤ) (u : Vector) (q : ℤ) (v : Vector) →
    Vanish gs u → Vanish gs v → Vanish gs (combination p u q v)
vanish_combination [] p u q v h k = tt
vanish_combination (g ∷ gs) p u q v h k = (
  dot-combination g p u q v ∙ zero_combination p (g · u) q (g · v) h.0 k.0,
  vanish_combination gs p u q v h.1 k.1,
)

pub inside_combination : (n : ℕ) (fixed : List Vector) (p : ℤ) (u : Vector) (q : ℤ) (v : Vector) →
    IsVectorOn n fixed u → IsVectorOn n fixed v → IsVectorOn n fixed (combination p u q v)
inside_combination n fixed p u q v h k =
    (length-combination n p u q v h.0 k.0, vanish_combination fixed p u q v h.1 k.1)

pub zero_at_scale : (g : Vector) (p : ℤ) (v : Vector) → g · v ≡ pos 0 → g · scale p v ≡ pos 0
zero_at_scale g p v e = dot-scale g p v ∙ ap (λ t. p *ℤ t) e ∙ mul_zero p

pub vanish_scale : (gs : List Vector) (p : ℤ) (v : Vector) → Vanish gs v → Vanish gs (scale p v)
vanish_scale [] p v h = tt
vanish_scale (g ∷ gs) p v h = (zero_at_scale g p v h.0, vanish_scale gs p v h.1)

pub inside_scale : (n : ℕ) (fixed : List Vector) (p : ℤ) (v : Vector) →
    IsVectorOn n fixed v → IsVectorOn n fixed (scale p v)
inside_scale n fixed p v h = (length-scale p v ∙ h.0, vanish_scale fixed p v h.1)
