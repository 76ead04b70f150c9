use Rattle.std.proofs.Common.{refl, sym, subst}
use Rattle.coordinator.specs.Leaving.{Adds, LeavesFronts}
use Rattle.coordinator.proofs.MoreRecords.{adds_none, leaves_same}
use Rattle.coordinator.proofs.keeping.keep.Goals as goal

pub returns-in-Some-clause-leaves : goal.returns-in-Some-clause-leaves
returns-in-Some-clause-leaves g c =
    subst (LeavesFronts g.D.Disk c.args.disk.now c.add.new.disk c.args.ledger.now) (sym c.in-Some.ensures.some) c.add.ensures.leaves

pub returns-in-None-clause-adds : goal.returns-in-None-clause-adds
returns-in-None-clause-adds g c =
    subst (Adds g.D.Disk c.args.disk.now c.args.disk.now c.args.ledger.now c.args.ledger.now) (sym (c.in-None.ensures.none refl))
    (adds_none g.D.Disk c.args.disk.now c.args.ledger.now g.met.D.Disk.only_now)

pub returns-in-None-clause-leaves : goal.returns-in-None-clause-leaves
returns-in-None-clause-leaves g c = leaves_same g.D.Disk c.args.disk.now c.args.ledger.now _ g.met.D.Disk.only_now
