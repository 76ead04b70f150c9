use Rattle.coordinator.proofs.MoreRecords.{grown_fits, leaves_one}
use Rattle.coordinator.proofs.keeping.add.Goals as goal

pub returns-in-Ok-clause-adds : goal.returns-in-Ok-clause-adds
returns-in-Ok-clause-adds g c = record {
  knows = c.in-Ok.ensures.knows;
  kept = c.in-Ok.ensures.kept;
  leaves = leaves_one g.D.Disk c.args.disk.now c.append.new.disk c.args.ledger.now c.args.payload.now c.append.ensures.moments;
}

pub returns-in-Ok-clause-leaves : goal.returns-in-Ok-clause-leaves
returns-in-Ok-clause-leaves g c = leaves_one g.D.Disk c.args.disk.now c.append.new.disk c.args.ledger.now c.args.payload.now c.append.ensures.moments

pub returns-in-Ok-clause-fits : goal.returns-in-Ok-clause-fits
returns-in-Ok-clause-fits g c = grown_fits c.args.ledger.now c.append.new.self _ c.in-Ok.ensures.knows c.in-Ok.ensures.fits

pub returns-in-Err-DiskFault-clause-leaves : goal.returns-in-Err-DiskFault-clause-leaves
returns-in-Err-DiskFault-clause-leaves g c = leaves_one g.D.Disk c.args.disk.now c.append.new.disk c.args.ledger.now c.args.payload.now c.append.ensures.moments

pub returns-in-Err-LedgerLimit-clause-leaves : goal.returns-in-Err-LedgerLimit-clause-leaves
returns-in-Err-LedgerLimit-clause-leaves g c = leaves_one g.D.Disk c.args.disk.now c.append.new.disk c.args.ledger.now c.args.payload.now c.append.ensures.moments

pub returns-in-Err-Memory-clause-leaves : goal.returns-in-Err-Memory-clause-leaves
returns-in-Err-Memory-clause-leaves g c = leaves_one g.D.Disk c.args.disk.now c.append.new.disk c.args.ledger.now c.args.payload.now c.append.ensures.moments
