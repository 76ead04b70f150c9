use Rattle.std.proofs.Common.{[], inl, inr, refl, ap, Err}
use Rattle.poly_model.specs.declared.kind.WorkKind.TheVariants.{Subtrees}
use Rattle.work_core.specs.Searches.{Search}
use Rattle.disk_core.proofs.Quiets.{leaves_nothing_new}
use Rattle.disk_core.proofs.Moments.{weaker}
use Rattle.coordinator.proofs.CallLemmas.{goes_none}
use Rattle.coordinator.specs.Calls.{state_after}
use Rattle.lrs_cli.proofs.SearchLemmas.{attached, may_search}
use Rattle.lrs_cli.proofs.run.run_poly.Goals as goal

pub run_attached-requires-clause-may : goal.run_attached-requires-clause-may
run_attached-requires-clause-may g c = may_search c.args.poly c.in-Ok.root.key c.requires.file c.in-Ok.ensures.root c.in-Ok.ensures.key

pub returns-in-Ok-attach-clause-runs : goal.returns-in-Ok-attach-clause-runs
returns-in-Ok-attach-clause-runs g c =
    let d = g.D.Disk in
    let e = c.in-Ok-attach.ensures in
    let s : Search = record { work = Subtrees; polyhedron = c.args.poly; root = c.in-Ok.root.key } in
    let quiet = leaves_nothing_new d.seen d.images d.moment d.since g.met.D.Disk.only_now c.args.disk.now c.attach.new.self e.crash e.time in
    inr (
      s,
      may_search c.args.poly c.in-Ok.root.key c.requires.file c.in-Ok.ensures.root c.in-Ok.ensures.key,
      refl,
      attached d g.W.Workers c.args.call.now.terms.options c.args.call.now.terms.limit s c.args.disk.now c.attach.new.self c.run_attached.new.disk
          c.args.workers.now c.run_attached.new.workers e.seen e.crash quiet _ _ _ _ c.run_attached.ensures.runs,
    )

pub returns-in-Ok-clause-runs : goal.returns-in-Ok-clause-runs
returns-in-Ok-clause-runs g c =
    let d = g.D.Disk in
    let e = c.in-Err.ensures in
    let s : Search = record { work = Subtrees; polyhedron = c.args.poly; root = c.in-Ok.root.key } in
    let quiet = leaves_nothing_new d.seen d.images d.moment d.since g.met.D.Disk.only_now c.args.disk.now c.attach.new.self e.crash e.time in
    inr (
      s,
      may_search c.args.poly c.in-Ok.root.key c.requires.file c.in-Ok.ensures.root c.in-Ok.ensures.key,
      refl,
      record {
        goes = (
          [],
          inl (state_after c.args.call.now.terms.options s [], goes_none _ _),
          λ f told. weaker d.moment d.since c.args.disk.now c.attach.new.self _ _ quiet (λ x i. inl i),
        );
        prints = inl refl;
        ends = tt;
        honest = λ h. h;
      },
    )

pub returns-in-Err-Infeasible-clause-runs : goal.returns-in-Err-Infeasible-clause-runs
returns-in-Err-Infeasible-clause-runs g c = let stop = c.in-Err-Infeasible in inl (stop.ensures.infeasible (ap Err stop.field-0-is), refl, refl, refl)

pub returns-in-Err-Overflow-clause-runs : goal.returns-in-Err-Overflow-clause-runs
returns-in-Err-Overflow-clause-runs g c = let stop = c.in-Err-Overflow in inl (stop.ensures.overflow stop.overflow (ap Err stop.field-0-is), refl, refl, refl)
