use Rattle.std.proofs.Common.{rules, ◌∙◌}
use Rattle.job_ledger.proofs.ledger.Ledger.reopen.Goals as goal

pub returns-in_err-spans-clause-none : goal.returns-in_err-spans-clause-none
returns-in_err-spans-clause-none g c is f told =
    let synced = c.in_ok-sync_file.ensures.durable f told in
    let now = c.in_ok-size.ensures.quiet.same ∙ synced.0 in
    (c.in_err-spans.ensures.none (search rules) f now (c.in_ok-size.ensures.len f synced.0), c.in_err-spans.ensures.quiet.same ∙ now)

pub returns-clause-records : goal.returns-clause-records
returns-clause-records g c f told =
    let synced = c.in_ok-sync_file.ensures.durable f told in
    let now = c.in_ok-size.ensures.quiet.same ∙ synced.0 in
    let last = c.in_ok-spans.ensures.quiet.same ∙ now in
    let found = c.in_ok-spans.ensures.records f now (c.in_ok-size.ensures.len f synced.0) in (
      found.payloads,
      found.some,
      found.has,
      last,
      record {
        file = f;
        told = last;
        has = found.has;
        sizes = found.sizes;
        settled = λ e left. synced.1 e (c.in_ok-size.ensures.quiet.nothing_new e (c.in_ok-spans.ensures.quiet.nothing_new e left));
      },
    )
