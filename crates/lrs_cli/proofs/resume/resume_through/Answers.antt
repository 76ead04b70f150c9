use Rattle.std.proofs.Common.{inl, refl}
use Rattle.disk_core.proofs.Quiets.{leaves_nothing_new}
use Rattle.lrs_cli.specs.declared.status.Status.TheVariants.{DiskFault, WriteFault}
use Rattle.lrs_cli.proofs.FileLemmas.{disk_rose, none_rose, rose_at}
use Rattle.lrs_cli.proofs.RecordedLemmas.{attached}
use Rattle.lrs_cli.proofs.ResumeHeadline.{answers_resume}
use Rattle.lrs_cli.proofs.resume.resume_through.Goals as goal

pub returns-in-Ok : goal.returns-in-Ok
returns-in-Ok g c =
    let d = g.D.Disk in
    let a = c.in-Ok.ensures in
    let e = c.resume_over.ensures in
    let quiet = leaves_nothing_new d.seen d.images d.moment d.since g.met.D.Disk.only_now c.args.disk.now c.attach.new.self a.crash a.time in
    let on = attached d g.W.Workers c.args.call.now.terms.options c.args.call.now.terms.limit c.args.disk.now c.attach.new.self c.resume_over.new.disk
    c.args.workers.now c.resume_over.new.workers a.seen a.crash quiet _ _ _ _ e.goes_on in
    answers_resume d g.W.Workers g.met.W.Workers.honest_history g.met.D.Disk.reads_an_image c.args.call.now.terms.options c.requires.terms.options
    c.args.call.now.terms.limit _ _ _ _ _ _ on _ _ e.writes (rw a.cause.same at e.disk_calls)

pub returns-in-Err : goal.returns-in-Err
returns-in-Err g c =
    let d = g.D.Disk in
    let a = c.in-Err.ensures in
    let quiet = leaves_nothing_new d.seen d.images d.moment d.since g.met.D.Disk.only_now c.args.disk.now c.attach.new.self a.crash a.time in
    answers_resume d g.W.Workers g.met.W.Workers.honest_history g.met.D.Disk.reads_an_image c.args.call.now.terms.options c.requires.terms.options
    c.args.call.now.terms.limit _ _ _ _ _ _ (record { goes = inl (refl, quiet); prints = inl refl; ends = tt; idle = λ f told r none. refl; honest = λ h. h }) _ _
    (none_rose WriteFault _ _ (λ e. cc)) (disk_rose DiskFault _ _ (rose_at DiskFault _ _ _ a.cause.later (λ e. a.cause.failed) (λ n. absurd (n refl))))
