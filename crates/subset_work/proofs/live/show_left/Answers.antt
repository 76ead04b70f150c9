use Rattle.std.proofs.Common.{refl, arith}
use Rattle.plain_enum.proofs.ShowUnder.{has_coordinate, nothing_here, one_written}
use Rattle.work_core.proofs.WalkedLemmas.{writes_row, part_row}
use Rattle.subset_work.proofs.Sums.{visited_is_one}
use Rattle.subset_work.proofs.Visits.{leaf_none, leaf_one, leaf_part}
use Rattle.subset_work.proofs.live.show_left.Goals as goal

pub returns-in_default-clause-walked : goal.returns-in_default-clause-walked
returns-in_default-clause-walked g c p key most longest live room few near =
    let prefix = c.args.prefix.now in
    absurd (has_coordinate prefix.sys.now prefix.free.now prefix.dict.now prefix.from p live.cone live.fixed live.left
    live.marks live.at (c.in_default.ensures.none refl))

pub returns-in_default-shown_side-clause-walked : goal.returns-in_default-shown_side-clause-walked
returns-in_default-shown_side-clause-walked g c p key most longest live room few near =
    let prefix = c.args.prefix.now in
    leaf_none p prefix.sys.now prefix.free.now prefix.dict.now prefix.from key live room most longest
    (g.S.Sink.written c.args.out.now) c.args.before c.one_base-count.result few near
    (visited_is_one c.args.before c.one_base-count.result c.one_base-count.ensures.rows c.one_base-count.ensures.jobs
    c.one_base-count.ensures.bases)
    (nothing_here prefix.sys.now prefix.free.now prefix.dict.now prefix.from p live.cone live.fixed live.left live.marks
    live.at c.requires.room.narrow c.in-Some.col c.in-Some.ensures.some (c.in_default-shown_side.ensures.none refl))

pub returns-in-Ok-clause-walked : goal.returns-in-Ok-clause-walked
returns-in-Ok-clause-walked g c p key most longest live room few near =
    let prefix = c.args.prefix.now in
    let base = c.one_base-count.ensures in
    let row = c.one_row.ensures in
    leaf_one p prefix.sys.now prefix.free.now prefix.dict.now prefix.from key live room most longest
    c.write_direction.new.vector
    (one_written prefix.sys.now prefix.free.now prefix.dict.now prefix.from p live.cone live.fixed live.left live.marks
    live.at c.requires.room.narrow c.in-Some.col c.in-Some.ensures.some c.in-Some-shown_side.side
    c.in-Some-shown_side.ensures.some _ c.requires.room.width c.write_direction.new.vector c.write_direction.ensures.value)
    (g.S.Sink.written c.args.out.now) (g.S.Sink.written c.write_row.new.out) c.args.before
    c.one_row.result few near (omega (arith, row.rows, base.rows)) (omega (arith, row.jobs, base.jobs))
    (omega (arith, row.bases, base.bases))
    (writes_row (g.S.Sink.written c.args.out.now) (g.S.Sink.written c.write_row.new.out) c.write_direction.new.vector
    c.in-Ok.ensures.prints.whole c.write_row.ensures.numbers)

pub returns-in-Err-clause-walked : goal.returns-in-Err-clause-walked
returns-in-Err-clause-walked g c p key most longest live room few near =
    let prefix = c.args.prefix.now in
    leaf_part p prefix.sys.now prefix.free.now prefix.dict.now prefix.from key live room most longest
    c.write_direction.new.vector
    (one_written prefix.sys.now prefix.free.now prefix.dict.now prefix.from p live.cone live.fixed live.left live.marks
    live.at c.requires.room.narrow c.in-Some.col c.in-Some.ensures.some c.in-Some-shown_side.side
    c.in-Some-shown_side.ensures.some _ c.requires.room.width c.write_direction.new.vector c.write_direction.ensures.value)
    (g.S.Sink.written c.args.out.now) (g.S.Sink.written c.write_row.new.out) c.args.before
    (part_row (g.S.Sink.written c.args.out.now) (g.S.Sink.written c.write_row.new.out) c.write_direction.new.vector
    c.in-Err.ensures.prints.part c.write_row.ensures.numbers)
