use Rattle.std.proofs.Common.{◌∙◌, sym, arith}
use Rattle.std.proofs.lemmas.Option.{none-some, same_Some}
use Rattle.plain_text.proofs.ReadLemmas.{some_read, none_read}
use Rattle.plain_text.proofs.NumberLemmas.{is_decimal, reads_decimal}
use Rattle.plain_text.proofs.numbers.read_count.Goals as goal

pub returns-in_err-size : goal.returns-in_err-size
returns-in_err-size c =
    rw c.from_residual.ensures (none_read (λ n lt is.
    none-some n (sym c.in_err-size.was ∙ c.read_decimal.ensures ∙ reads_decimal c.args.word.now n is (omega arith))))

pub returns-then-size : goal.returns-then-size
returns-then-size c = none_read (λ n lt is.
    let e = same_Some c.in_ok-size.size n
    (sym c.in_ok-size.was ∙ c.read_decimal.ensures ∙ reads_decimal c.args.word.now n is (omega arith)) in
    omega (arith, e, c.if-size.true, lt))

pub returns : goal.returns
returns c =
    some_read c.in_ok-size.size (omega (arith, c.if-size.false))
    (is_decimal c.args.word.now c.in_ok-size.size (sym c.read_decimal.ensures ∙ c.in_ok-size.was)
    (omega (arith, c.if-size.false)))
