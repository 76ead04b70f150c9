use Rattle.std.proofs.Common.{arith, ap, ◌≡◌, ◌∙◌}
use Rattle.job_ledger.specs.Ledgers.{Known, end_of}
use Rattle.job_ledger.proofs.SpanLemmas.{span_lies}
use Rattle.job_ledger.proofs.ledger.Ledger.span.Goals as goal

pub returns-clause-at : goal.returns-clause-at
returns-clause-at c =
    let ins = c.self.inside in
    let lies = span_lies ins.spans.items ins.end c.args.i c.args.self.now.sizes c.index.result.now c.self.invariant.1 (ap (λ (k : Known). k.sizes) c.self.view_is) c.requires c.index.ensures in
    omega (arith, lies.start)

pub returns-clause-len : goal.returns-clause-len
returns-clause-len c =
    let ins = c.self.inside in
    let lies = span_lies ins.spans.items ins.end c.args.i c.args.self.now.sizes c.index.result.now c.self.invariant.1 (ap (λ (k : Known). k.sizes) c.self.view_is) c.requires c.index.ensures in
    lies.size

pub returns-clause-within : goal.returns-clause-within
returns-clause-within c =
    let ins = c.self.inside in
    let lies = span_lies ins.spans.items ins.end c.args.i c.args.self.now.sizes c.index.result.now c.self.invariant.1 (ap (λ (k : Known). k.sizes) c.self.view_is) c.requires c.index.ensures in
    let last : ins.end ≡ end_of c.args.self.now.sizes = c.self.invariant.1.last ∙ ap (λ (k : Known). end_of k.sizes) c.self.view_is in
    omega (arith, lies.within, last, c.self.invariant.2)
