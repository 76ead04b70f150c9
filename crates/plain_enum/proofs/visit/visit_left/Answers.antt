use Rattle.std.proofs.Common.{refl}
use Rattle.listing_laws.specs.Prefixes.{IsCornerUnder}
use Rattle.plain_enum.proofs.ShowUnder.{has_coordinate, nothing_here, one_written}
use Rattle.plain_enum.proofs.VisitLemmas.{visits_none, visits_one, ends_at_one, some_one, some_end}
use Rattle.plain_enum.proofs.visit.visit_left.Goals as goal

pub returns-in_default-clause-visited : goal.returns-in_default-clause-visited
returns-in_default-clause-visited g c p cone fixed left marks at =
    let prefix = c.args.prefix.now in
    absurd (has_coordinate prefix.sys.now prefix.free.now prefix.dict.now prefix.from
    p cone fixed left marks at (c.in_default.ensures.none refl))

pub returns-in_default-shown_side-clause-visited :
    goal.returns-in_default-shown_side-clause-visited
returns-in_default-shown_side-clause-visited g c p cone fixed left marks at =
    let prefix = c.args.prefix.now in
    visits_none g.V.Visit.visits g.V.Visit.ends c.args.visitor c.args.out.now (IsCornerUnder cone marks)
    (nothing_here prefix.sys.now prefix.free.now prefix.dict.now prefix.from p cone fixed left marks at
    c.requires.room.narrow c.in-Some.col
    c.in-Some.ensures.some (c.in_default-shown_side.ensures.none refl))

pub returns-in-Ok-clause-visited : goal.returns-in-Ok-clause-visited
returns-in-Ok-clause-visited g c p cone fixed left marks at =
    let prefix = c.args.prefix.now in
    visits_one g.V.Visit.visits g.V.Visit.ends c.args.visitor c.in-Ok.next c.args.out.now c.visit.new.out
    c.write_direction.new.vector (IsCornerUnder cone marks)
    (one_written prefix.sys.now prefix.free.now prefix.dict.now prefix.from p cone fixed left marks at
    c.requires.room.narrow c.in-Some.col c.in-Some.ensures.some c.in-Some-shown_side.side
    c.in-Some-shown_side.ensures.some _ c.requires.room.width c.write_direction.new.vector c.write_direction.ensures.value)
    c.in-Ok.ensures.visits

pub returns-in-Err-clause-visited : goal.returns-in-Err-clause-visited
returns-in-Err-clause-visited g c p cone fixed left marks at =
    let prefix = c.args.prefix.now in
    ends_at_one g.V.Visit.visits g.V.Visit.ends c.args.visitor c.args.out.now c.visit.new.out c.in-Err.end
    c.write_direction.new.vector (IsCornerUnder cone marks)
    (one_written prefix.sys.now prefix.free.now prefix.dict.now prefix.from p cone fixed left marks at
    c.requires.room.narrow c.in-Some.col c.in-Some.ensures.some c.in-Some-shown_side.side
    c.in-Some-shown_side.ensures.some _ c.requires.room.width c.write_direction.new.vector c.write_direction.ensures.value)
    c.in-Err.ensures.ends

pub returns-in-Ok-clause-some : goal.returns-in-Ok-clause-some
returns-in-Ok-clause-some g c =
    some_one g.V.Visit.visits g.V.Visit.ends c.args.visitor c.in-Ok.next c.args.out.now c.visit.new.out
    c.write_direction.new.vector c.in-Ok.ensures.visits

pub returns-in-Err-clause-some : goal.returns-in-Err-clause-some
returns-in-Err-clause-some g c =
    some_end g.V.Visit.visits g.V.Visit.ends c.args.visitor c.args.out.now c.visit.new.out c.in-Err.end
    c.write_direction.new.vector c.in-Err.ensures.ends
