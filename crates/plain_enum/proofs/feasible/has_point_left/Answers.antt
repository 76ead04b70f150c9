use Rattle.std.proofs.Common.{◌≡◌, refl, subst}
use Rattle.poly_model.specs.declared.overflow.Overflow.{Overflow}
use Rattle.plain_enum.specs.Plain.{PassesInCone}
use Rattle.plain_enum.proofs.FeasiblePlain.{no_vertex, some_vertex}
use Rattle.plain_enum.proofs.PointSought.{none_positive, last_inside}
use Rattle.plain_enum.proofs.feasible.has_point_left.Goals as goal

pub returns-in-Ok-clause-answer : goal.returns-in-Ok-clause-answer
returns-in-Ok-clause-answer c p last file b =
    let each = (c.in-Ok.ensures.visited p last file b).whole in
    no_vertex p c.args.start.now.dict.now last c.args.start.now.free.now b each.0 each.1
    (none_positive _ _ each.0 _ _ each.2)

pub returns-in-Err-Stopped-clause-answer : goal.returns-in-Err-Stopped-clause-answer
returns-in-Err-Stopped-clause-answer c p last file b =
    let each = (rw c.in-Err-Stopped.field-0-is at c.in-Err-Stopped.ensures.visited p last file b).part in
    some_vertex p c.args.start.now.dict.now last c.args.start.now.free.now b each.0 each.1 each.2.last
    (last_inside _ _ _ _ each.0 _ _ each.2) each.2.ended

pub returns-in-Err-Overflow-clause-passes : goal.returns-in-Err-Overflow-clause-passes
returns-in-Err-Overflow-clause-passes c o e p last file b =
    let found = (rw c.in-Err-Overflow.field-0-is at c.in-Err-Overflow.ensures.passes) c.in-Err-Overflow.overflow refl
    p last file b in
    let same : c.in-Err-Overflow.overflow ≡ o = cc in
    subst (λ (x : Overflow). PassesInCone p x) same found
