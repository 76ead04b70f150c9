-- Whether equations have a common point, read off settled rows.
use Rattle.std.proofs.Common.{◌≡◌, ◌≢◌, ℕ, List, ℤ, pos, ◌+ℤ◌, ◌*ℤ◌, sym, ◌∙◌, ⊎_elim, arith}
use Rattle.std.specs.Prelude.{◌<ℤ◌}
use Rattle.std.specs.List.{Contains}
use Rattle.poly_num.specs.Vectors.{◌·◌}
use Rattle.poly_num.proofs.Ring.{lin, mul_comm}
use Rattle.poly_num.proofs.Order.{zero_factor, positive_nonzero}
use Rattle.poly_model.specs.Spaces.{Space}
use Rattle.poly_model.specs.Dictionaries.{Table, Writes, sum_over}
use Rattle.poly_model.specs.Equations.{HasPointOn}
use Rattle.dictionary_laws.specs.Points.{AreSettled}
use Rattle.dictionary_laws.proofs.Members.{contains_or, sum_zero}
use Rattle.dictionary_laws.proofs.Values.{terms}
use Rattle.dictionary_laws.proofs.Directions.{times_zero, zero_times}
use Rattle.dictionary_laws.proofs.Origins.{Origin}

constant_zero : (d v c y s : ℤ) → y ≢ pos 0 → d *ℤ v ≡ c *ℤ y +ℤ s → v ≡ pos 0 → s ≡ pos 0 → c ≡ pos 0
constant_zero d v c y s n h e f =
    zero_factor y c (let a = times_zero d v e in let b = mul_comm y c in omega (arith, lin)) n

value_zero : (d v c y s : ℤ) → pos 0 <ℤ d → d *ℤ v ≡ c *ℤ y +ℤ s → c ≡ pos 0 → s ≡ pos 0 → v ≡ pos 0
value_zero d v c y s l h e f =
    zero_factor d v (let a = zero_times c y e in omega (arith, lin)) (positive_nonzero d l)

module _ (space : Space) where
  module _ (key equations : List ℕ) (t : Table) (w : Writes space key t)
      (labels : (i : ℕ) → Contains equations i → Contains space.labels i) where
    pub constants_where_point : AreSettled key t equations → HasPointOn space equations →
        (i : ℕ) → Contains equations i → t.constant i ≡ pos 0
    constants_where_point settled p i c =
        constant_zero t.denominator (space.form i · p.vector) (t.constant i) (space.infinity · p.vector)
        (sum_over key (terms space t i p.vector)) p.finite
        (w.values i (labels i c) p.vector p.inside) (p.zero i c)
        (sum_zero key (terms space t i p.vector) (λ k h.
        ⊎_elim
        (λ (e : Contains equations k). times_zero (t.entry i k) (space.form k · p.vector) (p.zero k e))
        (λ (n : Contains equations k → ⊥). zero_times (t.entry i k) (space.form k · p.vector)
        (settled i k c h n))
        (contains_or equations k)))

    pub point_where_constants : Origin space key →
        ((i : ℕ) → Contains equations i → t.constant i ≡ pos 0) →
        HasPointOn space equations
    point_where_constants o zero = record {
      vector = o.vector;
      inside = o.inside;
      finite = λ e. positive_nonzero o.level o.positive (sym o.is_level ∙ e);
      zero = λ i c. value_zero t.denominator (space.form i · o.vector) (t.constant i)
          (space.infinity · o.vector)
          (sum_over key (terms space t i o.vector)) w.positive
          (w.values i (labels i c) o.vector o.inside) (zero i c)
          (sum_zero key (terms space t i o.vector)
          (λ k h. times_zero (t.entry i k) (space.form k · o.vector) (o.zero k h)));
    }
