use Rattle.std.proofs.Common.{◌∙◌, length, arith, sym, ap, subst}
use Rattle.dictionary.specs.declared.positions.Position.{Position}
use Rattle.dictionary.specs.Views.{Dictionary, IsWhole}
use Rattle.dictionary.specs.Positions.{label_count, position_at, IsPosition, AreBelow, ArePositions}
use Rattle.dictionary.proofs.PositionLemmas.{position_is}
use Rattle.dictionary.proofs.dict.Dict.position.Goals as goal

pub position_at-requires : goal.position_at-requires
position_at-requires c =
    let below = subst (λ (d : Dictionary). AreBelow d.labels label_count) c.self.view_is c.self.invariant.3 in
    let l = below c.args.label c.requires in
    let room = ap length c.deref.ensures.value ∙ c.self.invariant.4.room in
    omega (arith, l, room)

pub returns : goal.returns
returns c =
    let at = c.position_at.ensures ∙ ap (λ ps. position_at ps c.args.label) c.deref.ensures.value in
    subst (λ (p : Position). IsPosition c.args.self.now c.args.label p) (sym at)
    (position_is c.args.self.now (subst (λ (d : Dictionary). IsWhole d) c.self.view_is c.self.invariant.2) c.args.label
    c.self.inside.positions.items
    (subst (λ (d : Dictionary). ArePositions d.rows d.columns c.self.inside.positions.items) c.self.view_is c.self.invariant.4)
    c.requires)
