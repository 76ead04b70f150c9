-- Numbers that are a positive multiple of others write the labels exactly where those do.
use Rattle.std.proofs.Common.{◌≡◌, ◌≢◌, ℕ, List, ℤ, pos, ◌+ℤ◌, ◌*ℤ◌, ap, subst, ◌∙◌, arith}
use Rattle.std.specs.Prelude.{◌<ℤ◌}
use Rattle.std.specs.List.{Contains}
use Rattle.poly_num.specs.Vectors.{Vector, ◌·◌}
use Rattle.poly_num.proofs.Ring.{expand, lin}
use Rattle.poly_num.proofs.Order.{cancel, positive_nonzero, positive_factor, positive_product}
use Rattle.poly_model.specs.Spaces.{Space}
use Rattle.poly_model.specs.Dictionaries.{Table, Writes, sum_over}
use Rattle.dictionary_laws.proofs.Values.{terms}
use Rattle.dictionary_laws.proofs.Members.{sum_same, sum-scale}

times_all : (p d e v b c y s t : ℤ) → d ≡ p *ℤ e → b ≡ p *ℤ c → s ≡ p *ℤ t → e *ℤ v ≡ c *ℤ y +ℤ t →
    d *ℤ v ≡ b *ℤ y +ℤ s
times_all p d e v b c y s t f g h k =
    let f2 = simp expand at (ap (λ (z : ℤ). z *ℤ v) f) in
    let g2 = simp expand at (ap (λ (z : ℤ). z *ℤ y) g) in
    let k2 = simp expand at (ap (λ (z : ℤ). p *ℤ z) k) in
    omega (arith, lin)

over_all : (p d e v b c y s t : ℤ) → p ≢ pos 0 → d ≡ p *ℤ e → b ≡ p *ℤ c → s ≡ p *ℤ t →
    d *ℤ v ≡ b *ℤ y +ℤ s → e *ℤ v ≡ c *ℤ y +ℤ t
over_all p d e v b c y s t n f g h k = cancel p (e *ℤ v) (c *ℤ y +ℤ t) n (
    let f2 = simp expand at (ap (λ (z : ℤ). z *ℤ v) f) in
    let g2 = simp expand at (ap (λ (z : ℤ). z *ℤ y) g) in
    simp expand (omega (arith, lin)))

module _ (space : Space) (key : List ℕ) where
  -- the numbers of t are p times those of u
  pub record AreTimes (p : ℤ) (t u : Table) : Type 0 where
    pub denominator : t.denominator ≡ p *ℤ u.denominator
    pub constants : (i : ℕ) → Contains space.labels i → t.constant i ≡ p *ℤ u.constant i
    pub entries : (i k : ℕ) → Contains space.labels i → Contains key k → t.entry i k ≡ p *ℤ u.entry i k

  sum_times : (p : ℤ) (t u : Table) → AreTimes p t u → (i : ℕ) → Contains space.labels i →
      (y : Vector) →
      sum_over key (terms space t i y) ≡ p *ℤ sum_over key (terms space u i y)
  sum_times p t u h i l y =
      sum_same key (terms space t i y) (λ k. p *ℤ (u.entry i k *ℤ (space.form k · y)))
      (λ k c. step (t.entry i k) p (u.entry i k) (space.form k · y) (h.entries i k l c))
      ∙ sum-scale p key (terms space u i y)
    where
      step : (a p b v : ℤ) → a ≡ p *ℤ b → a *ℤ v ≡ p *ℤ (b *ℤ v)
      step a p b v e = let f = simp expand at (ap (λ (z : ℤ). z *ℤ v) e) in omega (arith, lin)

  pub multiples_write : (p : ℤ) (t u : Table) → pos 0 <ℤ p → AreTimes p t u → Writes space key u →
      Writes space key t
  multiples_write p t u h m w = record {
    positive = rw (m.denominator) (positive_product p u.denominator h w.positive);
    values = λ i l y inside.
        times_all p t.denominator u.denominator (space.form i · y) (t.constant i) (u.constant i)
        (space.infinity · y)
        (sum_over key (terms space t i y)) (sum_over key (terms space u i y))
        m.denominator (m.constants i l) (sum_times p t u m i l y) (w.values i l y inside);
  }

  pub divisors_write : (p : ℤ) (t u : Table) → pos 0 <ℤ p → AreTimes p t u → Writes space key t →
      Writes space key u
  divisors_write p t u h m w = record {
    positive = positive_factor p u.denominator h
        (subst (λ (z : ℤ). pos 0 <ℤ z) m.denominator w.positive);
    values = λ i l y inside.
        over_all p t.denominator u.denominator (space.form i · y) (t.constant i) (u.constant i)
        (space.infinity · y)
        (sum_over key (terms space t i y)) (sum_over key (terms space u i y))
        (positive_nonzero p h) m.denominator (m.constants i l) (sum_times p t u m i l y)
        (w.values i l y inside);
  }
