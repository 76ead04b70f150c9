-- Combinations of vectors and of directions of a space, and the value of a form at them.
use Rattle.std.proofs.Common.{◌≡◌, ℕ, List, [], ◌∷◌, ℤ, pos, ◌+ℤ◌, ◌*ℤ◌, neg_ℤ, ap, ◌∙◌, arith}
use Rattle.std.specs.List.{Contains}
use Rattle.poly_num.specs.Vectors.{Vector, ◌·◌, scale, IsZero}
use Rattle.poly_num.proofs.Ring.{lin, mul_zero, zero_mul, one_mul}
use Rattle.poly_num.proofs.VectorLemmas.{dot-zero, length-scale}
use Rattle.poly_model.specs.Independence.{Vanish}
use Rattle.poly_model.specs.Spaces.{Space, IsInside, IsDirection}
use Rattle.poly_model.specs.Dictionaries.{sum_over}
use Rattle.linear_laws.proofs.Combinations.{combination, dot-combination, length-combination, zero_combination, vanish_combination, vanish_scale, zero_at_scale}
use Rattle.linear_laws.proofs.Members.{Contains-first, Contains-later}

pub times_zero : (a x : ℤ) → x ≡ pos 0 → a *ℤ x ≡ pos 0
times_zero a x e = ap (λ (t : ℤ). a *ℤ t) e ∙ mul_zero a

pub zero_times : (a x : ℤ) → a ≡ pos 0 → a *ℤ x ≡ pos 0
zero_times a x e = ap (λ (t : ℤ). t *ℤ x) e ∙ zero_mul x

-- a form that is 0 at v does not see it
pub cleared_value : (v x a b : ℤ) → b ≡ pos 0 → v *ℤ a +ℤ neg_ℤ x *ℤ b ≡ v *ℤ a
cleared_value v x a b e = let f = times_zero (neg_ℤ x) b e in omega (arith, lin)

pub zero_at : (g : Vector) (p : ℤ) (u : Vector) (q : ℤ) (v : Vector) → g · u ≡ pos 0 → g · v ≡ pos 0 →
    g · combination p u q v ≡ pos 0
zero_at g p u q v e f = dot-combination g p u q v ∙ zero_combination p (g · u) q (g · v) e f

pub vanish_zero : (gs : List Vector) (v : Vector) → IsZero v → Vanish gs v
vanish_zero [] v z = tt
vanish_zero (g ∷ gs) v z = (dot-zero g v z, vanish_zero gs v z)

module _ (space : Space) where
  pub inside_scale : (p : ℤ) (v : Vector) → IsInside space v → IsInside space (scale p v)
  inside_scale p v h = record {
    width = length-scale p v ∙ h.width;
    fixed = vanish_scale space.fixed p v h.fixed;
  }

  pub direction_scale : (p : ℤ) (v : Vector) → IsDirection space v → IsDirection space (scale p v)
  direction_scale p v h = record {
    inside = inside_scale p v h.inside;
    level = zero_at_scale space.infinity p v h.level;
  }

  pub inside_combination : (p : ℤ) (u : Vector) (q : ℤ) (v : Vector) → IsInside space u →
      IsInside space v →
      IsInside space (combination p u q v)
  inside_combination p u q v h k = record {
    width = length-combination space.n p u q v h.width k.width;
    fixed = vanish_combination space.fixed p u q v h.fixed k.fixed;
  }

  pub direction_combination : (p : ℤ) (u : Vector) (q : ℤ) (v : Vector) → IsDirection space u →
      IsDirection space v →
      IsDirection space (combination p u q v)
  direction_combination p u q v h k = record {
    inside = inside_combination p u q v h.inside k.inside;
    level = zero_at space.infinity p u q v h.level k.level;
  }

  -- base and the sum over these labels of c k times d k
  abbrev pub spread : List ℕ → (ℕ → ℤ) → (ℕ → Vector) → Vector → Vector
  spread [] c d base = base
  spread (k ∷ ks) c d base = combination (c k) (d k) (pos 1) (spread ks c d base)

  pub dot-spread : (g : Vector) (ks : List ℕ) (c : ℕ → ℤ) (d : ℕ → Vector) (base : Vector) →
      g · spread ks c d base ≡ sum_over ks (λ k. c k *ℤ (g · d k)) +ℤ g · base
  dot-spread g [] c d base = omega (arith, lin)
  dot-spread g (k ∷ ks) c d base =
      let h = dot-spread g ks c d base in
      let e = dot-combination g (c k) (d k) (pos 1) (spread ks c d base) in
      let f = one_mul (g · spread ks c d base) in
      omega (arith, lin)

  pub inside_spread : (ks : List ℕ) (c : ℕ → ℤ) (d : ℕ → Vector) (base : Vector) →
      ((k : ℕ) → Contains ks k → IsInside space (d k)) → IsInside space base →
      IsInside space (spread ks c d base)
  inside_spread [] c d base h b = b
  inside_spread (k ∷ ks) c d base h b =
      inside_combination (c k) (d k) (pos 1) (spread ks c d base) (h k (Contains-first k ks))
      (inside_spread ks c d base (λ j i. h j (Contains-later j k ks i)) b)
