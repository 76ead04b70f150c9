use Rattle.std.proofs.Common.{rules, ◌≡◌, ◌∙◌, ap, length, take, drop, take_at}
use Rattle.job_ledger.proofs.reading.read_into.Goals as goal

pub returns-clause-bytes : goal.returns-clause-bytes
returns-clause-bytes g c f told =
    let n = c.in_ok-count.count in
    let buf = c.read_full.new.buf in
    let long : length buf ≡ c.resize.new.self.len = search rules in
    let wanted : length buf ≡ c.args.len = search rules in
    c.truncate.ensures.items ∙ ap (take n) (take_at buf _ c.resize.new.self.len long) ∙ c.in_ok-count.ensures.bytes f told ∙ ap (λ k. take k (drop c.args.at f)) wanted
