use Rattle.std.proofs.Common.{◌∙◌, ap₂, drop, take}
use Rattle.job_ledger.proofs.SpanLemmas.{payload_read}
use Rattle.job_ledger.proofs.ledger.Ledger.payload.Goals as goal

pub returns-clause-read : goal.returns-clause-read
returns-clause-read g c f told =
    c.from_vec.ensures ∙ c.in_ok-read_into.ensures.bytes f told ∙ ap₂ (λ n k. take n (drop k f)) c.span-span.ensures.len c.span-span.ensures.at

pub returns-clause-bytes : goal.returns-clause-bytes
returns-clause-bytes g c ps at =
    payload_read ps c.args.self.now.sizes at.file c.from_vec.result c.args.i at.has at.sizes c.requires (returns-clause-read g c at.file at.told)
