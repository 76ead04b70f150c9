use Rattle.std.proofs.Common.{◌≡◌, sym, ap, ◌∙◌}
use Rattle.std.proofs.lemmas.Result.{IfOk-weaker}
use Rattle.poly_model.specs.declared.kind.Kind.TheVariants.{H}
use Rattle.poly_model.specs.Systems.{System}
use Rattle.cone_laws.proofs.FeasibleLemmas.{feasible_file_by_vertex}
use Rattle.plain_enum.proofs.feasible_listing.is_feasible.Goals as goal

pub returns-in-H-clause-answer : goal.returns-in-H-clause-answer
returns-in-H-clause-answer c =
    IfOk-weaker c.has_point_left.result _ _
    (λ found tells p last file b.
    let kind : p.kind ≡ H = sym (ap (λ (s : System). s.kind) file) ∙ sym c.kind.ensures ∙ c.in-H.is in
    let feasible = feasible_file_by_vertex p kind in
    let vertex = tells p last file b in
    (λ t. feasible.1 (vertex.0 t), λ f. vertex.1 (feasible.0 f)))
    c.has_point_left.ensures.answer
