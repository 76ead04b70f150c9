use Rattle.std.proofs.Common.{◌+◌, sym, subst, ◌∙◌}
use Rattle.poly_model.specs.Keys.{IsAscending}
use Rattle.subset_work.specs.Standing.{IsNext}
use Rattle.subset_work.proofs.Descents.{next_last}
use Rattle.subset_work.proofs.work.after_last.Goals as goal

pub returns-in-Some-clause-next : goal.returns-in-Some-clause-next
returns-in-Some-clause-next c =
    subst (λ n. IsNext c.args.labels.now (n + 1)) (sym (c.from.ensures ∙ c.number.ensures))
    (subst (λ ks. IsNext ks (c.in-Some.label.now + 1)) (sym c.in-Some.ensures.cases.0)
    (next_last c.in-Some.field-0-1.now c.in-Some.label.now
    (subst IsAscending c.in-Some.ensures.cases.0 c.requires.ascending)))
