use Rattle.std.proofs.Common.{rules, arith}
use Rattle.job_ledger.proofs.LedgerLemmas.{is_at_more, stand}
use Rattle.job_ledger.proofs.ledger.Ledger.append.Goals as goal

pub write_record-requires : goal.write_record-requires
write_record-requires g c = omega (arith, c.gate-gate.ensures, c.in_ok-bytes.ensures.room)

pub returns-in_err-write_record-clause-moments : goal.returns-in_err-write_record-clause-moments
returns-in_err-write_record-clause-moments g c ps at =
    c.write_record.ensures.moments at.file at.told ps c.args.payload.now (stand c.args.self.now ps _ _ at c.gate-gate.result c.gate-gate.ensures) c.in_ok-bytes.ensures.short at.settled (search rules)

pub returns-clause-moments : goal.returns-clause-moments
returns-clause-moments g c ps at =
    c.write_record.ensures.moments at.file at.told ps c.args.payload.now (stand c.args.self.now ps _ _ at c.gate-gate.result c.gate-gate.ensures) c.in_ok-bytes.ensures.short at.settled (search rules)

pub returns-clause-kept : goal.returns-clause-kept
returns-clause-kept g c ps at =
    let (file, told, only, has) = c.in_ok-write_record.ensures.kept at.file at.told ps c.args.payload.now (stand c.args.self.now ps _ _ at c.gate-gate.result c.gate-gate.ensures) c.in_ok-bytes.ensures.short (search rules) in
    is_at_more c.args.self.now c.grow.new.self ps c.args.payload.now file _ _ at.sizes c.in_ok-grow.ensures.ok told only has
