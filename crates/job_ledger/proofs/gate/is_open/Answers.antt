use Rattle.std.proofs.Common.{rules, ◌≡◌, ◌∙◌, ap, length, take}
use Rattle.job_ledger.proofs.GateLemmas.{open_first, shut_first}
use Rattle.job_ledger.proofs.gate.is_open.Goals as goal

pub returns-clause-open : goal.returns-clause-open
returns-clause-open g c f told holds =
    let long : length c.read_full.new.buf ≡ 1 = search rules in
    let read = c.in_ok-count.ensures.bytes f told ∙ ap (λ k. take k f) long in
    open_first f _ read (c.begins_open.ensures.open holds)

pub returns-clause-shut : goal.returns-clause-shut
returns-clause-shut g c f told holds =
    let long : length c.read_full.new.buf ≡ 1 = search rules in
    let read = c.in_ok-count.ensures.bytes f told ∙ ap (λ k. take k f) long in
    shut_first f _ read (c.begins_open.ensures.shut holds)
