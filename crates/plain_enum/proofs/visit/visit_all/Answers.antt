use Rattle.std.proofs.Common.{[], length, refl, ap, ◌∙◌}
use Rattle.listing_laws.specs.Prefixes.{IsCornerUnder}
use Rattle.plain_enum.specs.Begin.{begun_cone}
use Rattle.plain_enum.proofs.FeasiblePlain.{begins, nothing_under}
use Rattle.plain_enum.proofs.VisitLemmas.{visits_where_none}
use Rattle.plain_enum.proofs.visit.visit_all.Goals as goal

pub returns-in-Some-clause-visited : goal.returns-in-Some-clause-visited
returns-in-Some-clause-visited g c p last file b =
    let start = c.args.start.now in
    c.visit_under.ensures.visited p _ _ _ []
    (begins p start.dict.now last start.free.now b start.sys.now file start.from _ c.requires.first
    (ap length c.deref_mut.ensures.value ∙ c.requires.room.depth) c.in-Some.field-0 c.in-Some.ensures.some)

pub returns-in-Some-clause-passes : goal.returns-in-Some-clause-passes
returns-in-Some-clause-passes g c o h p last file b =
    let start = c.args.start.now in
    c.visit_under.ensures.passes o h p _ _ _ []
    (begins p start.dict.now last start.free.now b start.sys.now file start.from _ c.requires.first
    (ap length c.deref_mut.ensures.value ∙ c.requires.room.depth) c.in-Some.field-0 c.in-Some.ensures.some)

pub returns-in-None-clause-visited : goal.returns-in-None-clause-visited
returns-in-None-clause-visited g c p last file b =
    let start = c.args.start.now in
    visits_where_none g.V.Visit.visits g.V.Visit.ends c.args.visitor c.args.out.now
    (IsCornerUnder (begun_cone p start.free.now start.dict.now) [])
    (nothing_under p start.dict.now last start.free.now b (c.in-None.ensures.none refl))
