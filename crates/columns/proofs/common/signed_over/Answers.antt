use Rattle.std.proofs.Common.{◌∙◌, ap, ℤ, ◌*ℤ◌}
use Rattle.poly_num.proofs.Ring.{mul_assoc}
use Rattle.columns.proofs.DivisorLemmas.{quotient_exact}
use Rattle.columns.proofs.common.signed_over.Goals as goal

pub returns : goal.returns
returns c =
    let h = c.args.common in
    let t = c.args.sign in
    ap (λ (z : ℤ). z *ℤ h) c.turned.ensures ∙ mul_assoc t c.quotient-q.result h
    ∙ ap (λ (z : ℤ). t *ℤ (z *ℤ h)) c.quotient-q.ensures
    ∙ ap (λ (z : ℤ). t *ℤ z) (quotient_exact h c.args.a c.requires.positive c.requires.divides)
