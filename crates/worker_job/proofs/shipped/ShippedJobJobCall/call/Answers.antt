use Rattle.std.proofs.Common.{inl, inr}
use Rattle.job_text.specs.declared.reply.Tail.TheVariants.{Overflow, Memory}
use Rattle.worker_job.proofs.Allowed.{whole, part, whole_of_result}
use Rattle.worker_job.proofs.shipped.ShippedJobJobCall.call.Goals as goal

pub returns-clause-done : goal.returns-clause-done
returns-clause-done g c = whole_of_result c.args.text.now _ _ c.reply.result c.reply.ensures.done

pub returns-clause-overflow : goal.returns-clause-overflow
returns-clause-overflow g c o e = whole c.args.text.now _ _ (Overflow o) (c.reply.ensures.overflow o e)

pub returns-clause-memory : goal.returns-clause-memory
returns-clause-memory g c e = elim (c.reply.ensures.memory e) [
  | inl unwritten ↦ inl unwritten
  | inr replies ↦ inr (whole c.args.text.now _ _ Memory replies)
]

pub returns-clause-write : goal.returns-clause-write
returns-clause-write g c e = let w = c.reply.ensures.write e in (w.0, part c.args.text.now _ _ w.1)
