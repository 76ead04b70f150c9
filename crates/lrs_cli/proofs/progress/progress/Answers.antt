use Rattle.std.proofs.Common.{refl}
use Rattle.disk_core.proofs.Quiets.{leaves_nothing_new}
use Rattle.lrs_cli.specs.declared.status.Status.TheVariants.{DiskFault, WriteFault}
use Rattle.lrs_cli.proofs.FileLemmas.{none_rose, rose_at}
use Rattle.lrs_cli.proofs.ProgressLemmas.{attached}
use Rattle.lrs_cli.proofs.progress.progress.Goals as goal

pub returns-in-Ok : goal.returns-in-Ok
returns-in-Ok g c =
    let d = g.D.Disk in
    let e = c.in-Ok.ensures in
    let quiet = leaves_nothing_new d.seen d.images d.moment d.since g.met.D.Disk.only_now c.args.disk.now c.attach.new.self e.crash e.time in
    attached d c.args.disk.now c.attach.new.self c.progress_of-status.new.disk e.seen e.crash quiet e.cause.same _ _ _ _ _ _ c.progress_of-status.ensures

pub returns-in-Err : goal.returns-in-Err
returns-in-Err g c =
    let d = g.D.Disk in
    let e = c.in-Err.ensures in
    record {
      tells = refl;
      leaves = leaves_nothing_new d.seen d.images d.moment d.since g.met.D.Disk.only_now c.args.disk.now c.attach.new.self e.crash e.time;
      writes = none_rose WriteFault _ _ (λ x. cc);
      disk_calls = rose_at DiskFault _ _ _ e.cause.later (λ x. e.cause.failed) (λ n. absurd (n refl));
    }
