use Rattle.std.proofs.Common.{subst}
use Rattle.disk_core.specs.Contents.{Cut}
use Rattle.disk_core.specs.Images.{ComesFrom}
use Rattle.disk_core.specs.Memory.{MemState, images_of}
use Rattle.disk_core.proofs.memory.MemDiskDisk.cut.Goals as goal

pub returns-clause-crash : goal.returns-clause-crash
returns-clause-crash c = subst (λ (d : MemState). ComesFrom (Cut c.args.len) (images_of d.file) (images_of c.cut-done.new.self)) c.self.view_is c.cut-done.ensures.crash
