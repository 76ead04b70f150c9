use Rattle.std.proofs.Common.{rules, arith, ◌≡◌, ◌+◌, ◌-◌, ◌∙◌, ◌++◌, ap, length, take, length-append, length-take-le}
use Rattle.disk_core.proofs.Pieces.{piece_more, put_behind}
use Rattle.disk_core.proofs.Quiets.{quiet_then}
use Rattle.disk_core.proofs.quiet.read_full.Goals as goal

pub pieces-preserved : goal.pieces-preserved
pieces-preserved g c =
    let d = g.D.Disk in
    let i = c.pieces.invariant in
    let buf = c.pieces.buf in
    let new = c.read_some.new.buf in
    let done = c.pieces.done in
    let n = c.in_ok-count.count in
    let long : length new ≡ length buf - done = search rules in
    let all = put_behind buf new done i.within long in
    let size : length (take done buf ++ new) ≡ length buf = omega (arith, long, i.within, length-append (take done buf) new, length-take-le done buf i.within) in
    record {
      quiet = quiet_then d.seen d.images d.moment d.since g.met.D.Disk.only_now _ _ _ i.quiet c.read_some.ensures.quiet;
      faults = search rules;
      kept = ap length all ∙ size ∙ i.kept;
      within = rw all (omega (arith, long, i.within, c.in_ok-count.ensures.bound, length-append (take done buf) new, length-take-le done buf i.within));
      bytes = λ f told. ap (take (done + n)) all ∙ piece_more buf new f c.args.at done n i.within (i.bytes f told) (c.in_ok-count.ensures.bytes f (i.quiet.same ∙ told));
    }
