use Rattle.std.proofs.Common.{refl, subst, ◌∙◌, arith}
use Rattle.std.proofs.lemmas.Grind.{get_or_default_zero}
use Rattle.plain_enum.proofs.Parts.{with_next}
use Rattle.subset_work.specs.Standing.{IsPlainRow}
use Rattle.subset_work.proofs.work.are_plain.Goals as goal

pub labels-preserved : goal.labels-preserved
labels-preserved c =
    with_next (IsPlainRow c.args.sys.now) c.args.labels.now c.labels.label-index c.labels.invariant
    (subst (IsPlainRow c.args.sys.now)
    (c.label-item.is ∙ get_or_default_zero c.args.labels.now c.labels.label-index _ c.labels-test.true)
    (c.is_plain.ensures.0 c.if-not-is_plain.false))

pub returns : goal.returns
returns c = (λ t k m. c.labels.invariant k m (omega (arith, m.1)), λ h. refl)
