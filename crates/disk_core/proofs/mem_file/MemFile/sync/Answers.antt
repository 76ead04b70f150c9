use Rattle.std.proofs.Common.{inl, subst, sym}
use Rattle.disk_core.specs.Images.{Only}
use Rattle.disk_core.specs.Memory.{History, images_of}
use Rattle.disk_core.proofs.FileLemmas.{only_synced}
use Rattle.disk_core.proofs.mem_file.MemFile.sync.Goals as goal

pub returns-in-Ok-clause-durable : goal.returns-in-Ok-clause-durable
returns-in-Ok-clause-durable c = subst (λ (g : History). Only c.args.self.now.bytes (images_of g)) (sym c.in-Ok.ensures.ok) (only_synced c.args.self.now)

pub returns-in-Ok-clause-crash : goal.returns-in-Ok-clause-crash
returns-in-Ok-clause-crash c e left = inl (returns-in-Ok-clause-durable c e left)
