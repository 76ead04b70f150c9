use Rattle.poly_io.proofs.Parts.{prints_cut, prints_then}
use Rattle.worker_job.proofs.replying.write_starved.Goals as goal

pub returns-in_err-write_reply_head : goal.returns-in_err-write_reply_head
returns-in_err-write_reply_head g c = prints_cut _ c.from_residual.ensures.0 c.in_err-write_reply_head.ensures

pub returns : goal.returns
returns g c = prints_then c.in_ok-write_reply_head.ensures c.write_tail.ensures
