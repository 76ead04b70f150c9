use Rattle.std.proofs.Common.{sym, ◌∙◌}
use Rattle.std.proofs.lemmas.Slice.Eq.{slice_eq-Decides}
use Rattle.std.proofs.lemmas.Bool.Decides.{Decides-eqb}
use Rattle.reverse_step.proofs.way.is_at.Goals as goal

pub returns-clause-same : goal.returns-clause-same
returns-clause-same c =
    let here = c.cobasis.ensures.value in
    let there = c.labels.ensures.value in
    let same = slice_eq-Decides Decides-eqb c.cobasis.result.now c.labels.result.now c.eq.result c.eq.ensures in
    ((λ t. sym here ∙ same.0 t ∙ there), (λ e. same.1 (here ∙ e ∙ sym there)))
