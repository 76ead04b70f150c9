use Rattle.std.proofs.Common.{◌∙◌, length, ap, arith}
use Rattle.run_state.specs.Runs.{Run}
use Rattle.run_ledger.proofs.RepliesInOrder.{one_more}
use Rattle.run_ledger.proofs.telling.read_progress.Goals as goal

pub returns-in-Ok-clause-progress : goal.returns-in-Ok-clause-progress
returns-in-Ok-clause-progress g c file told =
    let (payloads, is, size, known) = c.in-Ok.ensures.run in
    let counted = one_more is.search is.replies payloads is.is_text in
    record {
      search = is.search;
      replies = is.replies;
      payloads = payloads;
      is_ledger = record { has = (known file told).0; is_text = is.is_text };
      done_are = omega (arith, c.count.ensures, size, counted);
      waiting_are = c.waiting_len.ensures ∙ ap (λ (z : Run). length z.keys.waiting) is.is_run;
      rows_are = c.rows.ensures ∙ ap (λ (z : Run). z.rows) is.is_run;
    }
