use Rattle.std.proofs.Common.{sym, arith}
use Rattle.std.proofs.lemmas.Result.{err_from_is_err_and}
use Rattle.poly_reader.specs.Lines.{word}
use Rattle.poly_reader.proofs.RowLemmas.{row_starts, row_ends, rest_at_end, no_word, no_number, one_number}
use Rattle.poly_reader.proofs.rows.numbers_of.Goals as goal

pub numbers-init : goal.numbers-init
numbers-init c =
    row_starts c.args.last c.args.width c.args.words c.in_ok-numbers.numbers.items c.in_ok-numbers.ensures.items

pub returns-in-None-clause-numbers : goal.returns-in-None-clause-numbers
returns-in-None-clause-numbers c =
    rw c.bad.ensures
    (no_word c.args.last c.numbers.left c.args.width c.numbers.words c.args.words c.numbers.numbers.items
    c.numbers-test.true c.in-None.ensures c.numbers.invariant)

pub returns-in_err-number_at-clause-numbers : goal.returns-in_err-number_at-clause-numbers
returns-in_err-number_at-clause-numbers c =
    let p = err_from_is_err_and c.from_residual-in_err-number_at.result c.from_residual-in_err-number_at.ensures.1 in
    rw (p.1, p.2)
    (no_number c.args.last c.numbers.left c.args.width c.in_err-number_at.field-0.0 (word c.in-Some.next.0)
    c.numbers.words c.in-Some.next.1 c.args.words c.numbers.numbers.items c.numbers-test.true c.in-Some.ensures
    (sym c.in_err-number_at.ensures) c.numbers.invariant)

pub numbers-preserved : goal.numbers-preserved
numbers-preserved c =
    rw c.in_ok-push.ensures.items
    (one_number c.args.last c.numbers.left c.args.width c.in_ok-number_at.field-0 (word c.in-Some.next.0)
    c.numbers.words c.in-Some.next.1 c.args.words c.numbers.numbers.items c.numbers-test.true c.in-Some.ensures
    (sym c.in_ok-number_at.ensures) c.numbers.invariant)

pub returns-clause-numbers : goal.returns-clause-numbers
returns-clause-numbers c =
    row_ends c.args.last c.numbers.left c.args.width c.numbers.words c.args.words c.numbers.numbers.items
    c.numbers-test.false c.numbers.invariant

pub returns-clause-full : goal.returns-clause-full
returns-clause-full c = omega (arith, c.numbers.invariant.count, c.numbers-test.false)

pub returns-clause-rest : goal.returns-clause-rest
returns-clause-rest c =
    rest_at_end c.args.last c.numbers.left c.args.width c.numbers.words c.args.words c.numbers.numbers.items
    c.numbers-test.false c.numbers.invariant
