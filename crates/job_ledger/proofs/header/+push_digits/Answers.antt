use Rattle.std.proofs.Common.{rules, ◌≡◌, ◌∙◌, ◌-◌, ◌+◌, ◌%◌, ◌/◌, ◌++◌, ◌∷◌, [], ap, sym, arith, append_assoc, append-nil}
use Rattle.job_ledger.specs.Records.{digits}
use Rattle.job_ledger.proofs.HeaderLemmas.{digits_more, digits_none}
use Rattle.job_ledger.proofs.header.+push_digits.Goals as goal

pub returns-then-count-eq0 : goal.returns-then-count-eq0
returns-then-count-eq0 t c = sym (ap (λ l. c.args.bytes.now.items ++ l) (digits_none c.args.count c.args.n c.if-count-eq0.true) ∙ append-nil _)

pub returns : goal.returns
returns t c =
    let k = c.args.count in
    let n = c.args.n in
    let e : c.push.new.self.items ≡ (c.args.bytes.now.items ++ digits (k - 1) (n / 10)) ++ (48 + n % 10) ∷ [] = search rules in
    e ∙ append_assoc c.args.bytes.now.items (digits (k - 1) (n / 10)) ((48 + n % 10) ∷ []) ∙ ap (λ l. c.args.bytes.now.items ++ l) (sym (digits_more k n (omega (arith, c.if-count-eq0.false))))
