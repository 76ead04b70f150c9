use Rattle.std.proofs.Common.{subst, refl, arith, ◌-◌, ℕ}
use Rattle.std.specs.List.{Contains}
use Rattle.poly_model.specs.Keys.{IsAscending}
use Rattle.poly_model.specs.LexOrder.{outside}
use Rattle.dictionary.specs.Views.{table_of}
use Rattle.lex_pivot.specs.Readings.{reading_at}
use Rattle.lex_pivot.proofs.EarlierLemmas.{outside_in, outside_ascending}
use Rattle.lex_pivot.proofs.FirstSigns.{found_down, none_down}
use Rattle.lex_pivot.proofs.word_zeros.outside_sign.Goals.{After-labels-labels}
use Rattle.lex_pivot.proofs.word_zeros.outside_sign.Goals as goal

inside : (c : After-labels-labels) (k : ℕ) →
    Contains (outside c.args.table.now.dict.now.labels c.args.table.now.order.now) k → Contains c.labels-labels.result.now k
inside c =
    outside_in c.args.table.now.dict.now.labels c.args.table.now.order.now c.labels-labels.result.now c.labels-labels.ensures.value

up : (c : After-labels-labels) → IsAscending c.args.table.now.dict.now.labels
up c = subst IsAscending c.labels-labels.ensures.value c.labels-labels.ensures.ascending

pub returns-then-differs : goal.returns-then-differs
returns-then-differs c =
    let a = (goal.at.returns-then-differs c).After-labels-labels in
    let d = c.if-differs.ensures.yes refl in
    let m = c.sign_before_root-here.ensures.outside d in
    found_down (reading_at (table_of c.args.table.now.dict.now) c.args.reading.now) c.labels-labels.result.now
    (outside c.args.table.now.dict.now.labels c.args.table.now.order.now) c.labels-labels.ensures.ascending
    (outside_ascending c.args.table.now.dict.now.labels c.args.table.now.order.now (up a)) (inside a)
    (c.rows.n - 1) c.index-labels-n.result (let t = c.rows-test.true in let b = c.rows.auto.n in omega arith)
    c.index-labels-n.is c.sign_before_root-here.result c.rows.n (let t = c.rows-test.true in omega arith) c.rows.invariant d m (c.sign_before_root-here.ensures.value m)

pub returns : goal.returns
returns c =
    let a = (goal.at.returns c).After-labels-labels in
    none_down (reading_at (table_of c.args.table.now.dict.now) c.args.reading.now) c.labels-labels.result.now
    (outside c.args.table.now.dict.now.labels c.args.table.now.order.now) c.labels-labels.ensures.ascending
    (outside_ascending c.args.table.now.dict.now.labels c.args.table.now.order.now (up a)) (inside a)
    (λ j l m. c.rows.invariant j (let t = c.rows-test.false in omega arith) m)
