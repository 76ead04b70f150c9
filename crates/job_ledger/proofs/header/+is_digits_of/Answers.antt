use Rattle.std.proofs.Common.{rules, arith, ◌≡◌, ◌+◌, ◌-◌, ◌/◌, ◌%◌, get_or, length, take}
use Rattle.job_ledger.specs.Records.{digits}
use Rattle.job_ledger.proofs.HeaderLemmas.{digits_front, digits_last, digits_empty, digits_of_parts}
use Rattle.job_ledger.proofs.header.+is_digits_of.Goals as goal

pub returns-then-last-n-clause-no : goal.returns-then-last-n-clause-no
returns-then-last-n-clause-no t c _ is =
    let text = c.args.text.now in
    let long : length text ≡ (length text - 1) + 1 = omega (arith, c.in-len1-up.len_at_least) in
    let last = digits_last text c.args.n (length text - 1) long is in
    omega (arith, last, c.if-last-n.true)

pub returns-in-empty-clause-yes : goal.returns-in-empty-clause-yes
returns-in-empty-clause-yes t c _ = digits_empty c.args.text.now c.args.n c.in-empty.len_below

pub returns-else-last-n-clause-yes : goal.returns-else-last-n-clause-yes
returns-else-last-n-clause-yes t c holds =
    let text = c.args.text.now in
    let k = length text - 1 in
    let long : length text ≡ k + 1 = omega (arith, c.in-len1-up.len_at_least) in
    let front : take k text ≡ digits k (c.args.n / 10) = search rules in
    let last : get_or text k 0 ≡ 48 + c.args.n % 10 = search rules in
    digits_of_parts text c.args.n k long front last

pub returns-else-last-n-clause-no : goal.returns-else-last-n-clause-no
returns-else-last-n-clause-no t c not is =
    let text = c.args.text.now in
    let k = length text - 1 in
    let long : length text ≡ k + 1 = omega (arith, c.in-len1-up.len_at_least) in
    let front : take k text ≡ digits k (c.args.n / 10) = digits_front text c.args.n k long is in
    c.is_digits_of.ensures.no not (search rules)
