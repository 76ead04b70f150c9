use Rattle.std.proofs.Common.{rules, arith, ◌≡◌, ◌∙◌, ap, get_or, length, sym, take}
use Rattle.job_ledger.specs.Records.{digits}
use Rattle.job_ledger.proofs.HeaderLemmas.{header_front, header_last, header_of_parts, length-header, value-header}
use Rattle.job_ledger.proofs.header.size_of.Goals as goal

pub returns-then-text : goal.returns-then-text
returns-then-text c n lt is = omega (arith, c.if-text.true, ap length is, length-header n)

pub returns-then-text-ne10 : goal.returns-then-text-ne10
returns-then-text-ne10 c n lt is = omega (arith, c.if-text-ne10.true, header_last c.args.text.now n is)

pub returns-then-n-ge-TOO_LONG : goal.returns-then-n-ge-TOO_LONG
returns-then-n-ge-TOO_LONG c n lt is = omega (arith, c.if-n-ge-TOO_LONG.true, c.value-n.ensures, value-header c.args.text.now n lt is)

pub returns-then-is_digits_of : goal.returns-then-is_digits_of
returns-then-is_digits_of c =
    let text = c.args.text.now in
    let front : take 13 text ≡ digits 13 c.value-n.result = search rules in
    let last : get_or text 13 0 ≡ 10 = search rules in
    (header_of_parts text c.value-n.result (search rules) front last, search rules)

pub returns-else-is_digits_of : goal.returns-else-is_digits_of
returns-else-is_digits_of c n lt is =
    let text = c.args.text.now in
    let same : c.value-n.result ≡ n = omega (arith, c.value-n.ensures, value-header text n lt is) in
    let front : take 13 text ≡ digits 13 c.value-n.result = header_front text n is ∙ ap (digits 13) (sym same) in
    c.is_digits_of.ensures.no c.if-is_digits_of.false (search rules)
