use Rattle.std.proofs.Common.{inl, inr, ap, subst, sym, Err}
use Rattle.disk_core.specs.Moments.{LeavesOnly}
use Rattle.disk_core.proofs.Moments.{started}
use Rattle.lrs_cli.proofs.SearchLemmas.{may_run, part_of_whole, parts_of, whole_of}
use Rattle.lrs_cli.proofs.run.run_attached.Goals as goal

pub run-requires-clause-may : goal.run-requires-clause-may
run-requires-clause-may g c = may_run c.args.first c.requires.may

pub returns-in-Ok-clause-runs : goal.returns-in-Ok-clause-runs
returns-in-Ok-clause-runs g c =
    let d = c.in-Ok.ensures.done in
    record {
      goes = c.run.ensures.goes;
      prints = inr (d.0, d.1, λ f told. (d.2 f told).1, λ f told. part_of_whole _ _ _ _ c.in-Ok.listed.rows c.in-Ok.listed.lines (whole_of _ _ _ _ c.in-Ok.listed (d.2 f told).2));
      ends = (d.0, d.1, λ f told. (d.2 f told).1, λ f told. ((d.2 f told).0, whole_of _ _ _ _ c.in-Ok.listed (d.2 f told).2));
      honest = c.run.ensures.honest;
    }

pub returns-in-Err-BadLedger-clause-runs : goal.returns-in-Err-BadLedger-clause-runs
returns-in-Err-BadLedger-clause-runs g c =
    let stop = c.in-Err-BadLedger in
    record {
      goes = c.run.ensures.goes;
      prints = parts_of _ _ _ _ _ _ _ _ _ stop.ensures.part;
      ends = stop.ensures.bad stop.place (ap Err stop.field-0-is);
      honest = c.run.ensures.honest;
    }

pub returns-in-Err-DiskFault-clause-runs : goal.returns-in-Err-DiskFault-clause-runs
returns-in-Err-DiskFault-clause-runs g c =
    let stop = c.in-Err-DiskFault in
    record {
      goes = c.run.ensures.goes;
      prints = parts_of _ _ _ _ _ _ _ _ _ stop.ensures.part;
      ends = tt;
      honest = c.run.ensures.honest;
    }

pub returns-in-Err-WriteFault-clause-runs : goal.returns-in-Err-WriteFault-clause-runs
returns-in-Err-WriteFault-clause-runs g c =
    let stop = c.in-Err-WriteFault in
    record {
      goes = c.run.ensures.goes;
      prints = parts_of _ _ _ _ _ _ _ _ _ stop.ensures.part;
      ends = tt;
      honest = c.run.ensures.honest;
    }

pub returns-in-Err-Memory-clause-runs : goal.returns-in-Err-Memory-clause-runs
returns-in-Err-Memory-clause-runs g c =
    let stop = c.in-Err-Memory in
    record {
      goes = c.run.ensures.goes;
      prints = parts_of _ _ _ _ _ _ _ _ _ stop.ensures.part;
      ends = tt;
      honest = c.run.ensures.honest;
    }

pub returns-in-Err-Overflow-clause-runs : goal.returns-in-Err-Overflow-clause-runs
returns-in-Err-Overflow-clause-runs g c =
    let stop = c.in-Err-Overflow in
    let o = stop.ensures.overflow stop.overflow (ap Err stop.field-0-is) in
    record {
      goes = c.run.ensures.goes;
      prints = parts_of _ _ _ _ _ _ _ _ _ stop.ensures.part;
      ends = (
        o.0,
        elim o.1 [
          | inl own ↦ inl (
            own.0,
            own.2,
            subst (λ d. LeavesOnly g.D.Disk.moment g.D.Disk.since c.args.disk.now d (g.D.Disk.images c.args.disk.now)) (sym own.1)
                (started g.D.Disk.moment g.D.Disk.since c.args.disk.now (g.D.Disk.images c.args.disk.now) (g.met.D.Disk.only_now c.args.disk.now)),
          )
          | inr told ↦ inr told
        ],
      );
      honest = c.run.ensures.honest;
    }

pub returns-in-Err-HasRun-clause-runs : goal.returns-in-Err-HasRun-clause-runs
returns-in-Err-HasRun-clause-runs g c =
    let stop = c.in-Err-HasRun in
    record {
      goes = c.run.ensures.goes;
      prints = parts_of _ _ _ _ _ _ _ _ _ stop.ensures.part;
      ends = stop.ensures.has (ap Err stop.field-0-is);
      honest = c.run.ensures.honest;
    }

pub returns-in-Err-LedgerLimit-clause-runs : goal.returns-in-Err-LedgerLimit-clause-runs
returns-in-Err-LedgerLimit-clause-runs g c =
    let stop = c.in-Err-LedgerLimit in
    record {
      goes = c.run.ensures.goes;
      prints = parts_of _ _ _ _ _ _ _ _ _ stop.ensures.part;
      ends = stop.ensures.past stop.need stop.limit (ap Err stop.field-0-is);
      honest = c.run.ensures.honest;
    }

pub returns-in-Err-Lost-clause-runs : goal.returns-in-Err-Lost-clause-runs
returns-in-Err-Lost-clause-runs g c =
    let stop = c.in-Err-Lost in
    record {
      goes = c.run.ensures.goes;
      prints = parts_of _ _ _ _ _ _ _ _ _ stop.ensures.part;
      ends = stop.ensures.lost stop.lost stop.strays (ap Err stop.field-0-is);
      honest = c.run.ensures.honest;
    }
