use Rattle.std.proofs.Common.{◌≡◌, ◌∙◌, sym, subst, refl, arith, ap, ℕ, pos}
use Rattle.std.specs.List.{Contains}
use Rattle.poly_num.specs.Signs.{sign_of}
use Rattle.poly_model.specs.Dictionaries.{Table}
use Rattle.poly_model.specs.Keys.{IsAscending}
use Rattle.poly_model.specs.LexOrder.{outside, listed_at}
use Rattle.dictionary.specs.Views.{table_of}
use Rattle.lex_pivot.proofs.EarlierLemmas.{outside_in, outside_ascending}
use Rattle.lex_pivot.proofs.FirstSigns.{found_up, none_up, zero_first, zero_sign}
use Rattle.lex_pivot.proofs.feasible.list_sign.Goals.{After-labels-labels}
use Rattle.lex_pivot.proofs.feasible.list_sign.Goals as goal

zero : (c : After-labels-labels) → Table.constant (table_of c.args.dict.now) c.args.row ≡ pos 0
zero c =
    zero_sign (Table.constant (table_of c.args.dict.now) c.args.row)
    (sym (ap sign_of c.constant.ensures) ∙ sym c.sign-first.ensures ∙ c.if-differs.ensures.no refl)

up : (c : After-labels-labels) → IsAscending c.args.dict.now.labels
up c = subst IsAscending c.labels-labels.ensures.value c.labels-labels.ensures.ascending

inside : (c : After-labels-labels) (k : ℕ) →
    Contains (outside c.args.dict.now.labels c.args.order.now) k → Contains c.labels-labels.result.now k
inside c =
    outside_in c.args.dict.now.labels c.args.order.now c.labels-labels.result.now c.labels-labels.ensures.value

pub returns-then-differs-2 : goal.returns-then-differs-2
returns-then-differs-2 c =
    let a = (goal.at.returns-then-differs-2 c).After-labels-labels in
    let d = c.if-differs-2.ensures.yes refl in
    let m = c.sign_listed-here.ensures.outside d in
    found_up (listed_at c.args.dict.now.key (table_of c.args.dict.now) c.args.row) c.labels-labels.result.now
    (outside c.args.dict.now.labels c.args.order.now) c.labels-labels.ensures.ascending
    (outside_ascending c.args.dict.now.labels c.args.order.now (up a)) (inside a) c.labels.k-index c.k-item.result
    (let t = c.labels-test.true in let b = c.labels.auto.k-index-end in omega arith) c.k-item.is c.sign_listed-here.result c.labels.invariant d m (c.sign_listed-here.ensures.value m)
    ∙ sym (zero_first _ _ (zero a))

pub returns : goal.returns
returns c =
    let a = (goal.at.returns c).After-labels-labels in
    none_up (listed_at c.args.dict.now.key (table_of c.args.dict.now) c.args.row) c.labels-labels.result.now
    (outside c.args.dict.now.labels c.args.order.now) c.labels-labels.ensures.ascending
    (outside_ascending c.args.dict.now.labels c.args.order.now (up a)) (inside a) c.labels.k-index
    (let t = c.labels-test.false in let b = c.labels.auto.k-index-end in omega arith) c.labels.invariant
    ∙ sym (zero_first _ _ (zero a))
