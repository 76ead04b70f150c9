use Rattle.std.proofs.Common.{◌≡◌, ◌∙◌, ◌+◌, ◌-◌, drop, subst, arith}
use Rattle.disk_core.proofs.Quiets.{quiet_then}
use Rattle.job_text.specs.declared.reply.Reply.{Reply}
use Rattle.run_state.specs.Runs.{recorded_rows}
use Rattle.run_ledger.specs.declared.stops.PrintStop.TheVariants.{BadLedger, DiskFault, WriteFault}
use Rattle.run_ledger.specs.Recorded.{IsReplyAt}
use Rattle.run_ledger.proofs.Errors.{came, none_rose}
use Rattle.run_ledger.proofs.LedgerReads.{past, stays, within}
use Rattle.run_ledger.proofs.RepliesInOrder.{next_reply, no_rows_left}
use Rattle.run_ledger.proofs.RowsOwed.{owes_fewer, owes_nothing, stops_within}
use Rattle.run_ledger.proofs.printing.print_records.Goals as goal

pub returns-in_err-printed-clause-rows : goal.returns-in_err-printed-clause-rows
returns-in_err-printed-clause-rows g c s replies payloads at text n =
    let i = c.loop-i.i in
    let x = c.loop-i.invariant in
    let ledger = c.args.records.now.ledger.now in
    let lt = within ledger payloads _ _ at i c.count-i-end.result c.loop-i-test.true c.count-i-end.ensures in
    let h = next_reply s replies payloads text c.args.records.now.n n i x.from lt in
    stops_within g.O.Sink (recorded_rows replies) c.args.printed c.args.out.now (recorded_rows (drop (i - 1) replies))
    c.loop-i.printed c.loop-i.out (x.owes s replies payloads at text n) h.reply.rows
    (recorded_rows (drop (i + 1 - 1) replies)) h.rows c.print_record.new.out
    (c.in_err-printed.ensures.rows payloads h.reply
    (stays g.D.Disk c.args.disk.now c.loop-i.disk x.quiet ledger payloads at) h.is_at).part
    c.from_residual.result c.from_residual.ensures.0

pub returns-in_err-printed-clause-bad : goal.returns-in_err-printed-clause-bad
returns-in_err-printed-clause-bad g c place payloads e at =
    let i = c.loop-i.i in
    let x = c.loop-i.invariant in
    let from = x.from in
    let ledger = c.args.records.now.ledger.now in
    let lt = within ledger payloads _ _ at i c.count-i-end.result c.loop-i-test.true c.count-i-end.ensures in
    let r = c.from_residual in
    let bad = c.in_err-printed.ensures.bad place payloads
    (came r.result c.in_err-printed.field-0.0 (BadLedger place) r.ensures.1 e)
    (stays g.D.Disk c.args.disk.now c.loop-i.disk x.quiet ledger payloads at) in
    let is = bad.0 in
    let back : i ≡ place - 1 = omega (arith, is) in
    record {
      behind = omega (arith, is, from);
      within = omega (arith, is, lt);
      none = subst (λ k. (r : Reply) → IsReplyAt c.args.records.now.n payloads k r → ⊥) back bad.1;
    }

pub loop-i-preserved : goal.loop-i-preserved
loop-i-preserved g c =
    let d = g.D.Disk in
    let i = c.loop-i.i in
    let x = c.loop-i.invariant in
    let from = x.from in
    let ledger = c.args.records.now.ledger.now in
    let same = none_rose WriteFault _ _ c.in_ok-printed.printed c.in_ok-printed.ensures.sink_cause in
    record {
      from = omega (arith, from);
      quiet = quiet_then d.seen d.images d.moment d.since g.met.D.Disk.only_now c.args.disk.now c.loop-i.disk
          c.print_record.new.disk x.quiet c.in_ok-printed.ensures.quiet;
      disk_same = none_rose DiskFault _ _ c.in_ok-printed.printed c.in_ok-printed.ensures.disk_cause ∙ x.disk_same;
      sink_same = same ∙ x.sink_same;
      kind = c.in_ok-printed.ensures.kind ∙ x.kind;
      owes = λ s replies payloads at text n.
          let lt = within ledger payloads _ _ at i c.count-i-end.result c.loop-i-test.true c.count-i-end.ensures in
          let h = next_reply s replies payloads text c.args.records.now.n n i from lt in
          let rows = c.in_ok-printed.ensures.rows payloads h.reply
          (stays d c.args.disk.now c.loop-i.disk x.quiet ledger payloads at) h.is_at in
          owes_fewer g.O.Sink (recorded_rows replies) c.args.printed c.args.out.now (recorded_rows (drop (i - 1) replies))
          c.loop-i.printed c.loop-i.out (x.owes s replies payloads at text n) h.reply.rows
          (recorded_rows (drop (i + 1 - 1) replies)) h.rows c.in_ok-printed.printed c.print_record.new.out
          rows.whole c.in_ok-printed.ensures.kind rows.count same;
    }

pub returns-clause-rows : goal.returns-clause-rows
returns-clause-rows g c s replies payloads at text n =
    let i = c.loop-i.i in
    let x = c.loop-i.invariant in
    let all = past c.args.records.now.ledger.now payloads _ _ at i c.count-i-end.result c.loop-i-test.false
    c.count-i-end.ensures in
    owes_nothing g.O.Sink (recorded_rows replies) c.args.printed c.args.out.now (recorded_rows (drop (i - 1) replies))
    c.loop-i.printed c.loop-i.out (x.owes s replies payloads at text n) (no_rows_left s replies payloads text i all)
