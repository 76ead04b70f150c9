use Rattle.std.proofs.Common.{◌≡◌, IsTrue, sym, ap, subst, ◌∙◌}
use Rattle.std.proofs.lemmas.Slice.Eq.{slice_eq-Decides}
use Rattle.std.proofs.lemmas.Bool.Decides.{Decides-eqb}
use Rattle.dictionary.specs.Views.{Dictionary}
use Rattle.reverse_step.specs.Walks.{Walk}
use Rattle.reverse_step.proofs.walker.Walker.is_at_job.Goals as goal

pub returns : goal.returns
returns c =
    let here = c.cobasis.ensures.value ∙ ap (λ (d : Dictionary). d.key) c.deref.ensures in
    let job = c.labels.ensures.value in
    let same = slice_eq-Decides Decides-eqb c.cobasis.result.now c.labels.result.now c.eq.result c.eq.ensures in
    subst (λ (w : Walk). (IsTrue c.eq.result → w.dict.key ≡ w.job) × (w.dict.key ≡ w.job → IsTrue c.eq.result))
    c.self.view_is ((λ t. sym here ∙ same.0 t ∙ job), (λ e. same.1 (here ∙ e ∙ sym job)))
