use Rattle.std.proofs.Common.{◌≡◌, false, subst, sym, ◌∙◌}
use Rattle.std.specs.List.{Contains}
use Rattle.std.proofs.lemmas.Bool.{cond-false, false_from_ne_true, iff_false}
use Rattle.poly_model.specs.Spaces.{is_member}
use Rattle.poly_model.specs.Labels.{coordinate_label}
use Rattle.dictionary_laws.proofs.Filters.{member_only}
use Rattle.hull_lift.specs.Facets.{number_in, infinity_in}
use Rattle.hull_lift.proofs.facet.coordinate_in.Goals as goal

-- where no row has its label, it is that at infinity
pub returns-else-has_label : goal.returns-else-has_label
returns-else-has_label c =
    let d = c.args.dict.now in
    let col = c.args.col in
    let k = coordinate_label c.args.j in
    let outside : is_member k d.labels ≡ false =
    false_from_ne_true (is_member k d.labels)
    (λ e. iff_false c.has_label.ensures c.if-has_label.false
    (subst (λ i. Contains d.labels i) (sym c.coordinate-label.ensures) (member_only k d.labels e))) in
    c.infinity_in.ensures ∙ sym (cond-false (is_member k d.labels) (number_in d col k) (infinity_in d col) outside)
