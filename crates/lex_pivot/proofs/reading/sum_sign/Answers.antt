use Rattle.std.proofs.Common.{◌∙◌, ap, ℤ, ◌*ℤ◌}
use Rattle.std.specs.Ordering.{int_cmp}
use Rattle.lex_pivot.proofs.SignLemmas.{over_positive, over_negative, over_zero, zero_between}
use Rattle.lex_pivot.proofs.reading.sum_sign.Goals as goal

pub returns-then-is_positive : goal.returns-then-is_positive
returns-then-is_positive c =
    c.cmp_ratios.ensures ∙ ap (λ (x : ℤ). int_cmp (c.args.a *ℤ c.args.p) (x *ℤ c.args.f)) c.neg.ensures
    ∙ over_positive c.args.a c.args.b c.args.p c.args.f

pub returns-then-is_negative : goal.returns-then-is_negative
returns-then-is_negative c =
    c.cmp_ratios-then-is_negative.ensures
    ∙ ap (λ (x : ℤ). int_cmp (c.args.a *ℤ c.args.p) (c.args.b *ℤ x)) c.neg-then-is_negative.ensures
    ∙ over_negative c.args.a c.args.b c.args.p c.args.f

pub returns : goal.returns
returns c =
    c.sign.ensures
    ∙ over_zero c.args.a c.args.b c.args.p c.args.f c.requires
    (zero_between c.args.f c.if-is_positive.ensures.1 c.if-is_negative.ensures.1)
