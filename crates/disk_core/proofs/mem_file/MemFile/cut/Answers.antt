use Rattle.std.proofs.Common.{inr, length, refl, subst, sym}
use Rattle.disk_core.specs.Contents.{Cut, resized}
use Rattle.disk_core.specs.Images.{ComesFrom}
use Rattle.disk_core.specs.Moments.{Elapses}
use Rattle.disk_core.specs.Memory.{History, images_of, since_of}
use Rattle.disk_core.specs.declared.steps.Step.TheVariants.{Resized}
use Rattle.disk_core.proofs.FileLemmas.{elapses_next, follows_next}
use Rattle.disk_core.proofs.mem_file.MemFile.cut.Goals as goal

pub returns-in-Ok-clause-crash : goal.returns-in-Ok-clause-crash
returns-in-Ok-clause-crash c =
    let h = c.args.self.now in
    let len = c.args.len in
    subst (λ (g : History). ComesFrom (Cut len) (images_of h) (images_of g)) (sym c.in-Ok.ensures.ok)
    (follows_next (Cut len) h (Resized len) (resized len h.bytes) 0 0 (λ old e cut. cut) (inr refl))

pub returns-in-Ok-clause-time : goal.returns-in-Ok-clause-time
returns-in-Ok-clause-time c =
    let h = c.args.self.now in
    subst (λ (g : History). Elapses (length h.steps) (length g.steps) (since_of h) (since_of g) (images_of g)) (sym c.in-Ok.ensures.ok)
    (elapses_next h (Resized c.args.len) (resized c.args.len h.bytes) 0 0 c.in-Ok.ensures.real)
