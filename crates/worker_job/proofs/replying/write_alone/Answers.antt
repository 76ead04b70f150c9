use Rattle.poly_io.proofs.Parts.{prints_cut, prints_then}
use Rattle.worker_job.proofs.replying.write_alone.Goals as goal

pub returns-in_err-write_reply_head-clause-prints : goal.returns-in_err-write_reply_head-clause-prints
returns-in_err-write_reply_head-clause-prints g c = prints_cut _ c.from_residual.ensures.0 c.in_err-write_reply_head.ensures

pub returns-clause-prints : goal.returns-clause-prints
returns-clause-prints g c = prints_then c.in_ok-write_reply_head.ensures c.write_passed.ensures.prints
