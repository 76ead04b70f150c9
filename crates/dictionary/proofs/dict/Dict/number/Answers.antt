use Rattle.std.proofs.Common.{◌≡◌, ◌≢◌, ◌∙◌, length, sym, ap, subst, ⊎_elim}
use Rattle.std.proofs.lemmas.Bool.{cases_eq}
use Rattle.dictionary.specs.declared.positions.Position.{Position}
use Rattle.dictionary.specs.Views.{Dictionary, IsWhole}
use Rattle.dictionary.specs.Positions.{IsPosition}
use Rattle.dictionary.proofs.PositionLemmas.{number_in_row, number_in_own, number_in_other}
use Rattle.dictionary.proofs.dict.Dict.number.Goals as goal

pub returns-in-Row : goal.returns-in-Row
returns-in-Row c =
    let now = c.args.self.now in
    let rows = c.len.ensures ∙ c.self.inside.rows.ok.0 ∙ ap (λ (d : Dictionary). length d.rows) c.self.view_is in
    let at = subst (λ (p : Position). IsPosition now c.args.label p) c.in-Row.is c.position.ensures in
    c.at.ensures
    ∙ rw (rows, ap (λ (d : Dictionary). d.cells) c.self.view_is)
    (sym (number_in_row now (subst (λ (d : Dictionary). IsWhole d) c.self.view_is c.self.invariant.2) c.args.label
    c.in-Row.i c.args.column at))

-- a label of the cobasis
pub returns-in-Column : goal.returns-in-Column
returns-in-Column c =
    let now = c.args.self.now in
    let whole = subst (λ (d : Dictionary). IsWhole d) c.self.view_is c.self.invariant.2 in
    let label = c.args.label in
    let own = c.in-Column.own in
    let j = c.args.column in
    let at = subst (λ (p : Position). IsPosition now label p) c.in-Column.is c.position.ensures in
    ⊎_elim
    (λ (e : j ≡ own). c.own_number.ensures.own e ∙ sym (number_in_own now whole label own j at e))
    (λ (n : j ≢ own). c.own_number.ensures.other n ∙ sym (number_in_other now whole label own j at n))
    (cases_eq j own)
