use Rattle.std.proofs.Common.{◌≡◌, ◌∙◌, ap, ℤ, ◌*ℤ◌, ◌*◌}
use Rattle.poly_num.proofs.Ring.{mul_assoc}
use Rattle.columns.proofs.ColumnLemmas.{rescaled}
use Rattle.columns.proofs.DivisorLemmas.{quotient_exact}
use Rattle.columns.proofs.rescale.shrink_scale.Goals.{Else-not-scale_words}
use Rattle.columns.proofs.rescale.shrink_scale.Goals as goal

-- the factor between the two divisors
times : (c : Else-not-scale_words) → c.in-Some-of.k *ℤ c.in-Some.less ≡ c.args.shrinking.now.divisor
times c =
    let u = c.in-Some.ensures in
    rw (
      c.in-Some-of.ensures.1 ∙ c.quotient.ensures,
      c.wide.ensures.value,
      c.word-g.ensures.value,
      c.wide-2.ensures.value,
      c.word.ensures.value,
    )
    (quotient_exact c.in-Some.less c.args.shrinking.now.divisor u.positive u.divides)

pub returns-clause-scale : goal.returns-clause-scale
returns-clause-scale c _ =
    let h = c.in-Some.less in
    let f = c.args.shrinking.now.factor in
    record {
      positive = c.in-Some.ensures.positive;
      whole =
          ap (λ (z : ℤ). z *ℤ h) c.in-Some-product.ensures ∙ mul_assoc f c.in-Some-of.k h
          ∙ ap (λ (z : ℤ). f *ℤ z) (times c) ∙ c.requires.scale.whole;
    }

pub returns-clause-shrunk : goal.returns-clause-shrunk
returns-clause-shrunk c _ =
    let place = c.args.column * c.args.parts.now.x.now.height in
    record {
      left = c.in-Some.ensures;
      rescaled =
          rescaled place c.args.shrinking.now.divisor c.in-Some.less c.in-Some-of.k (times c) c.args.new.now
          c.scale_words.new.new (c.scale_words.ensures.scaled c.if-not-scale_words.false);
    }
