use Rattle.std.proofs.Common.{inr, ap, Err}
use Rattle.lrs_cli.proofs.SearchLemmas.{part_of_whole, whole_of}
use Rattle.lrs_cli.proofs.RecordedLemmas.{parts_of_run}
use Rattle.lrs_cli.proofs.resume.resume_attached.Goals as goal

pub returns-in-Ok-clause-goes_on : goal.returns-in-Ok-clause-goes_on
returns-in-Ok-clause-goes_on g c =
    let e = c.in-Ok.ensures in
    let d = e.done in
    record {
      goes = e.goes;
      prints = inr (
        d.0,
        d.1,
        d.2,
        λ f told. (d.3 f told).0,
        λ f told. part_of_whole _ _ _ _ c.in-Ok.listed.rows c.in-Ok.listed.lines (whole_of _ _ _ _ c.in-Ok.listed (d.3 f told).1),
      );
      ends = (d.0, d.1, d.2, λ f told. (d.3 f told).0, λ f told. whole_of _ _ _ _ c.in-Ok.listed (d.3 f told).1);
      idle = e.idle;
      honest = e.honest;
    }

pub returns-in-Err-BadLedger-clause-goes_on : goal.returns-in-Err-BadLedger-clause-goes_on
returns-in-Err-BadLedger-clause-goes_on g c =
    let stop = c.in-Err-BadLedger in
    let e = c.resume.ensures in
    record { goes = e.goes; prints = parts_of_run _ _ _ _ _ _ _ stop.ensures.part; ends = stop.ensures.bad stop.place (ap Err stop.field-0-is); idle = e.idle; honest = e.honest }

pub returns-in-Err-Overflow-clause-goes_on : goal.returns-in-Err-Overflow-clause-goes_on
returns-in-Err-Overflow-clause-goes_on g c =
    let stop = c.in-Err-Overflow in
    let e = c.resume.ensures in
    record { goes = e.goes; prints = parts_of_run _ _ _ _ _ _ _ stop.ensures.part; ends = stop.ensures.overflow stop.overflow (ap Err stop.field-0-is); idle = e.idle; honest = e.honest }

pub returns-in-Err-DiskFault-clause-goes_on : goal.returns-in-Err-DiskFault-clause-goes_on
returns-in-Err-DiskFault-clause-goes_on g c =
    let stop = c.in-Err-DiskFault in
    let e = c.resume.ensures in
    record { goes = e.goes; prints = parts_of_run _ _ _ _ _ _ _ stop.ensures.part; ends = tt; idle = e.idle; honest = e.honest }

pub returns-in-Err-WriteFault-clause-goes_on : goal.returns-in-Err-WriteFault-clause-goes_on
returns-in-Err-WriteFault-clause-goes_on g c =
    let stop = c.in-Err-WriteFault in
    let e = c.resume.ensures in
    record { goes = e.goes; prints = parts_of_run _ _ _ _ _ _ _ stop.ensures.part; ends = tt; idle = e.idle; honest = e.honest }

pub returns-in-Err-Memory-clause-goes_on : goal.returns-in-Err-Memory-clause-goes_on
returns-in-Err-Memory-clause-goes_on g c =
    let stop = c.in-Err-Memory in
    let e = c.resume.ensures in
    record { goes = e.goes; prints = parts_of_run _ _ _ _ _ _ _ stop.ensures.part; ends = tt; idle = e.idle; honest = e.honest }

pub returns-in-Err-NoRun-clause-goes_on : goal.returns-in-Err-NoRun-clause-goes_on
returns-in-Err-NoRun-clause-goes_on g c =
    let stop = c.in-Err-NoRun in
    let e = c.resume.ensures in
    record { goes = e.goes; prints = parts_of_run _ _ _ _ _ _ _ stop.ensures.part; ends = stop.ensures.none (ap Err stop.field-0-is); idle = e.idle; honest = e.honest }

pub returns-in-Err-Infeasible-clause-goes_on : goal.returns-in-Err-Infeasible-clause-goes_on
returns-in-Err-Infeasible-clause-goes_on g c =
    let stop = c.in-Err-Infeasible in
    let e = c.resume.ensures in
    record { goes = e.goes; prints = parts_of_run _ _ _ _ _ _ _ stop.ensures.part; ends = stop.ensures.infeasible (ap Err stop.field-0-is); idle = e.idle; honest = e.honest }

pub returns-in-Err-LedgerLimit-clause-goes_on : goal.returns-in-Err-LedgerLimit-clause-goes_on
returns-in-Err-LedgerLimit-clause-goes_on g c =
    let stop = c.in-Err-LedgerLimit in
    let e = c.resume.ensures in
    record { goes = e.goes; prints = parts_of_run _ _ _ _ _ _ _ stop.ensures.part; ends = stop.ensures.past stop.need stop.limit (ap Err stop.field-0-is); idle = e.idle; honest = e.honest }

pub returns-in-Err-Lost-clause-goes_on : goal.returns-in-Err-Lost-clause-goes_on
returns-in-Err-Lost-clause-goes_on g c =
    let stop = c.in-Err-Lost in
    let e = c.resume.ensures in
    record { goes = e.goes; prints = parts_of_run _ _ _ _ _ _ _ stop.ensures.part; ends = stop.ensures.lost stop.lost stop.strays (ap Err stop.field-0-is); idle = e.idle; honest = e.honest }
