use Rattle.std.proofs.Common.{◌∙◌, Err, sym, ap}
use Rattle.run_state.specs.Runs.{Run}
use Rattle.coordinator.proofs.CallEnds.{leaves_quiet, prints_from, writes_err, writes_ok}
use Rattle.coordinator.proofs.going.print.Goals as goal

pub returns-in-Ok-clause-prints : goal.returns-in-Ok-clause-prints
returns-in-Ok-clause-prints g c =
    prints_from g.D.Disk c.args.disk.now c.args.going.now.ledger c.args.going.now.core.run.search.polyhedron c.poly.result.now c.args.going.now.lines c.as_slice.result.now _ _ _ _
    c.in-Ok.ensures.listed (c.poly.ensures ∙ ap (λ (r : Run). r.search.polyhedron) c.state.ensures) c.as_slice.ensures c.requires.lines
    (λ s replies. writes_ok s replies _ _ c.in-Ok.listed)

pub returns-in-Ok-clause-leaves : goal.returns-in-Ok-clause-leaves
returns-in-Ok-clause-leaves g c = leaves_quiet g.D.Disk c.args.disk.now c.print_run.new.disk c.args.going.now.ledger _ c.print_run.ensures.quiet

pub returns-in-Err-BadLedger-clause-prints : goal.returns-in-Err-BadLedger-clause-prints
returns-in-Err-BadLedger-clause-prints g c =
    prints_from g.D.Disk c.args.disk.now c.args.going.now.ledger c.args.going.now.core.run.search.polyhedron c.poly.result.now c.args.going.now.lines c.as_slice.result.now _ _ _ _
    c.in-Err-BadLedger.ensures.listed (c.poly.ensures ∙ ap (λ (r : Run). r.search.polyhedron) c.state.ensures) c.as_slice.ensures c.requires.lines
    (λ s replies. writes_err s replies _ _ c.in-Err-BadLedger.field-0 _)

pub returns-in-Err-BadLedger-clause-leaves : goal.returns-in-Err-BadLedger-clause-leaves
returns-in-Err-BadLedger-clause-leaves g c = leaves_quiet g.D.Disk c.args.disk.now c.print_run.new.disk c.args.going.now.ledger _ c.print_run.ensures.quiet

pub returns-in-Err-DiskFault-clause-prints : goal.returns-in-Err-DiskFault-clause-prints
returns-in-Err-DiskFault-clause-prints g c =
    prints_from g.D.Disk c.args.disk.now c.args.going.now.ledger c.args.going.now.core.run.search.polyhedron c.poly.result.now c.args.going.now.lines c.as_slice.result.now _ _ _ _
    c.in-Err-DiskFault.ensures.listed (c.poly.ensures ∙ ap (λ (r : Run). r.search.polyhedron) c.state.ensures) c.as_slice.ensures c.requires.lines
    (λ s replies. writes_err s replies _ _ c.in-Err-DiskFault.field-0 _)

pub returns-in-Err-DiskFault-clause-leaves : goal.returns-in-Err-DiskFault-clause-leaves
returns-in-Err-DiskFault-clause-leaves g c = leaves_quiet g.D.Disk c.args.disk.now c.print_run.new.disk c.args.going.now.ledger _ c.print_run.ensures.quiet

pub returns-in-Err-WriteFault-clause-prints : goal.returns-in-Err-WriteFault-clause-prints
returns-in-Err-WriteFault-clause-prints g c =
    prints_from g.D.Disk c.args.disk.now c.args.going.now.ledger c.args.going.now.core.run.search.polyhedron c.poly.result.now c.args.going.now.lines c.as_slice.result.now _ _ _ _
    c.in-Err-WriteFault.ensures.listed (c.poly.ensures ∙ ap (λ (r : Run). r.search.polyhedron) c.state.ensures) c.as_slice.ensures c.requires.lines
    (λ s replies. writes_err s replies _ _ c.in-Err-WriteFault.field-0 _)

pub returns-in-Err-WriteFault-clause-leaves : goal.returns-in-Err-WriteFault-clause-leaves
returns-in-Err-WriteFault-clause-leaves g c = leaves_quiet g.D.Disk c.args.disk.now c.print_run.new.disk c.args.going.now.ledger _ c.print_run.ensures.quiet

pub returns-in-Err-Memory-clause-prints : goal.returns-in-Err-Memory-clause-prints
returns-in-Err-Memory-clause-prints g c =
    prints_from g.D.Disk c.args.disk.now c.args.going.now.ledger c.args.going.now.core.run.search.polyhedron c.poly.result.now c.args.going.now.lines c.as_slice.result.now _ _ _ _
    c.in-Err-Memory.ensures.listed (c.poly.ensures ∙ ap (λ (r : Run). r.search.polyhedron) c.state.ensures) c.as_slice.ensures c.requires.lines
    (λ s replies. writes_err s replies _ _ c.in-Err-Memory.field-0 _)

pub returns-in-Err-Memory-clause-leaves : goal.returns-in-Err-Memory-clause-leaves
returns-in-Err-Memory-clause-leaves g c = leaves_quiet g.D.Disk c.args.disk.now c.print_run.new.disk c.args.going.now.ledger _ c.print_run.ensures.quiet

pub returns-in-Err-BadLedger-clause-bad : goal.returns-in-Err-BadLedger-clause-bad
returns-in-Err-BadLedger-clause-bad g c place is records s replies at text same =
    c.in-Err-BadLedger.ensures.never_bad c.in-Err-BadLedger.place s replies records (ap Err c.in-Err-BadLedger.field-0-is) at text
    (same ∙ sym (c.poly.ensures ∙ ap (λ (r : Run). r.search.polyhedron) c.state.ensures))
