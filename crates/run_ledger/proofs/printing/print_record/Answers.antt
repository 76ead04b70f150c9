use Rattle.std.proofs.Common.{rules, ◌≡◌, List, ℕ, length, subst, sym}
use Rattle.job_ledger.specs.Ledgers.{IsLedgerAt}
use Rattle.job_text.specs.declared.reply.Reply.{Reply}
use Rattle.job_text.specs.Replies.{IsWholeReply}
use Rattle.run_ledger.specs.Recorded.{IsReplyAt}
use Rattle.run_ledger.proofs.LedgerReads.{whole_there}
use Rattle.run_ledger.proofs.RowsOwed.{stops_at_once}
use Rattle.run_ledger.proofs.printing.print_record.Given.{Over}
use Rattle.run_ledger.proofs.printing.print_record.Goals as goal

pub returns-in_err-payload-clause-rows : goal.returns-in_err-payload-clause-rows
returns-in_err-payload-clause-rows g c payloads r at is =
    stops_at_once g.O.Sink r.rows c.args.printed c.args.out.now c.from_residual.result c.from_residual.ensures.0

pub returns-in_err-row-clause-rows : goal.returns-in_err-row-clause-rows
returns-in_err-row-clause-rows g c payloads r at is =
    stops_at_once g.O.Sink r.rows c.args.printed c.args.out.now c.from_residual-in_err-row.result
    c.from_residual-in_err-row.ensures.0

-- a reply at the place is what the payload says, for rows as wide as the room for one
whole_here : (g : Over) (c : goal.After-drop-payload-inside-2 g) (payloads : List (List ℕ)) (r : Reply) →
    IsLedgerAt c.args.records.now.ledger.now payloads (g.D.Disk.seen c.args.disk.now) (g.D.Disk.images c.args.disk.now) →
    IsReplyAt c.args.records.now.n payloads c.args.i r → IsWholeReply (length c.deref_mut.result.now) r c.as_slice.result.now
whole_here g c payloads r at is =
    let size : length c.deref_mut.result.now ≡ c.args.records.now.n = search rules in
    subst (λ (n : ℕ). IsWholeReply n r c.as_slice.result.now) (sym size)
    (whole_there c.args.records.now.n payloads c.args.i r c.in_ok-payload.payload c.as_slice.result.now is
    (c.in_ok-payload.ensures.bytes payloads at) c.as_slice.ensures)

pub returns-clause-rows : goal.returns-clause-rows
returns-clause-rows g c payloads r at is = c.print_reply.ensures.rows r (whole_here g c payloads r at is) is.ends

pub returns-clause-bad : goal.returns-clause-bad
returns-clause-bad g c place payloads e at =
    let bad = c.print_reply.ensures.bad place e in
    (bad.0, λ r is. bad.1 r (whole_here g c payloads r at is) is.ends)
