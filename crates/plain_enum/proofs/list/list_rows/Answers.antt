use Rattle.std.proofs.Common.{[]}
use Rattle.listing_laws.specs.Prefixes.{IsCornerUnder}
use Rattle.plain_enum.specs.Begin.{begun_cone}
use Rattle.plain_enum.proofs.RowsShown.{writes_rows, has_cause}
use Rattle.plain_enum.proofs.list.list_rows.Goals as goal

pub returns-clause-written : goal.returns-clause-written
returns-clause-written g c p last file b =
    let start = c.args.start.now in
    writes_rows g.S.Sink.written g.S.Sink.faults start.sys.now.kind c.args.shown c.requires.kind c.args.out.now
    c.visit_all.new.out (IsCornerUnder (begun_cone p start.free.now start.dict.now) []) c.visit_all.result
    (c.visit_all.ensures.visited p last file b)

pub returns-clause-cause : goal.returns-clause-cause
returns-clause-cause g c =
    has_cause g.S.Sink.written g.S.Sink.faults c.args.shown c.args.out.now c.visit_all.new.out c.visit_all.result
    c.visit_all.ensures.some
