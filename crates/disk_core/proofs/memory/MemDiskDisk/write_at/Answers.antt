use Rattle.std.proofs.Common.{length, subst}
use Rattle.disk_core.specs.Contents.{TornWithin}
use Rattle.disk_core.specs.Images.{ComesFrom}
use Rattle.disk_core.specs.Memory.{MemState, images_of}
use Rattle.disk_core.proofs.memory.MemDiskDisk.write_at.Goals as goal

pub returns-clause-crash : goal.returns-clause-crash
returns-clause-crash c = subst (λ (d : MemState). ComesFrom (TornWithin c.args.at (length c.args.bytes.now)) (images_of d.file) (images_of c.write_at-done.new.self)) c.self.view_is c.write_at-done.ensures.crash
