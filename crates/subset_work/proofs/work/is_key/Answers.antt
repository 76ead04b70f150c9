use Rattle.std.proofs.Common.{length, sym, ap, subst, arith}
use Rattle.std.specs.List.{Contains}
use Rattle.subset_work.proofs.work.is_key.Goals as goal

pub returns-then-labels-depth-clause-value : goal.returns-then-labels-depth-clause-value
returns-then-labels-depth-clause-value c = (
  λ t. (
    omega (arith, c.if-labels-depth.true, ap length c.labels-labels.ensures.value),
    λ k m. c.are_plain.ensures.0 t k (subst (λ ks. Contains ks k) (sym c.labels-labels.ensures.value) m),
  ),
  λ h. c.are_plain.ensures.1 (λ k m. h.1 k (subst (λ ks. Contains ks k) c.labels-labels.ensures.value m)),
)
