use Rattle.std.proofs.Common.{◌≡◌, ◌∙◌, sym, subst, ap, refl, arith, ◌-◌, ◌<◌, length, get_or, ℕ, List}
use Rattle.std.specs.List.{Contains}
use Rattle.poly_model.specs.Keys.{IsAscending}
use Rattle.poly_model.specs.LexOrder.{rows_in, within}
use Rattle.dictionary.specs.Views.{table_of}
use Rattle.lex_pivot.specs.Readings.{reading_at}
use Rattle.lex_pivot.proofs.EarlierLemmas.{within_row, within_member, within_ascending, read_at}
use Rattle.lex_pivot.proofs.FirstSigns.{found_down, kept_down, none_down, sign_zero}
use Rattle.lex_pivot.proofs.LeadLemmas.{top_found, top_none}
use Rattle.lex_pivot.proofs.word_reading.lead_from.Goals.{After-root_labels-labels}
use Rattle.lex_pivot.proofs.word_reading.lead_from.Goals as goal

ascends : (c : After-root_labels-labels) → IsAscending (within c.args.table.now.dict.now.labels c.args.table.now.order.now)
ascends c =
    within_ascending c.args.table.now.dict.now.labels c.args.table.now.order.now
    (subst IsAscending c.labels-labels.ensures.value c.labels-labels.ensures.ascending)

root_ascends : (c : After-root_labels-labels) → IsAscending c.args.table.now.order.now
root_ascends c = subst IsAscending c.root_labels-labels.ensures.value c.root_labels-labels.ensures.ascending

inside : (c : After-root_labels-labels) (k : ℕ) →
    Contains (within c.args.table.now.dict.now.labels c.args.table.now.order.now) k → Contains c.args.table.now.order.now k
inside c k m = (within_row c.args.table.now.dict.now.labels c.args.table.now.order.now k m).1

-- a row that is read in the root
member : (c : After-root_labels-labels) (n q : ℕ) → q ≡ get_or c.args.table.now.order.now n q →
    n < length c.args.table.now.order.now → Contains (rows_in c.args.table.now.dict.now.labels) q →
    Contains (within c.args.table.now.dict.now.labels c.args.table.now.order.now) q
member c n q e l m = within_member c.args.table.now.dict.now.labels c.args.table.now.order.now q m (n, l, sym e)

read : (c : After-root_labels-labels) (n q : ℕ) → q ≡ get_or c.root_labels-labels.result.now n q →
    q ≡ get_or c.args.table.now.order.now n q
read c n q e = e ∙ ap (λ (ks : List ℕ). get_or ks n q) c.root_labels-labels.ensures.value

pub returns-then-differs : goal.returns-then-differs
returns-then-differs c =
    let a = (goal.at.returns-then-differs c).After-root_labels-labels in
    let root = c.args.table.now.order.now in
    let part = within c.args.table.now.dict.now.labels root in
    let f = reading_at (table_of c.args.table.now.dict.now) c.args.reading.now in
    let d = c.if-differs.ensures.yes refl in
    let m = c.sign_at_spot-here.ensures.row d in
    let t = c.rows-test.true in
    let i = c.rows.invariant.inside in
    let l : c.rows.n - 1 < length root = omega (arith, t, i) in
    let q = c.index-labels-n.result in
    let e = read a (c.rows.n - 1) q c.index-labels-n.is in
    let p = member a (c.rows.n - 1) q e l m in
    record {
      sign = found_down f root part (root_ascends a) (ascends a) (inside a) (c.rows.n - 1) q l e c.sign_at_spot-here.result
          c.rows.n (omega (arith, t)) c.rows.invariant.zero d p (c.sign_at_spot-here.ensures.value m);
      top = top_found c.args.table.now.dict.now root f c.rows.n (c.rows.n - 1) q (omega (arith, t)) l
          (read_at c.root_labels-labels.result.now root c.root_labels-labels.ensures.value (c.rows.n - 1) q l
          c.index-labels-n.is) c.rows.invariant.zero p
          (λ z. d (c.sign_at_spot-here.ensures.value m ∙ sign_zero (f q) z));
    }

pub rows-preserved : goal.rows-preserved
rows-preserved c =
    let a = (goal.at.rows-preserved c).After-root_labels-labels in
    let root = c.args.table.now.order.now in
    let part = within c.args.table.now.dict.now.labels root in
    let f = reading_at (table_of c.args.table.now.dict.now) c.args.reading.now in
    let t = c.rows-test.true in
    let i = c.rows.invariant.inside in
    let q = c.index-labels-n.result in
    record {
      inside = omega (arith, i);
      zero = kept_down f root part (root_ascends a) (ascends a) (inside a) (c.rows.n - 1) q (omega (arith, t, i))
          (read a (c.rows.n - 1) q c.index-labels-n.is) c.sign_at_spot-here.result c.rows.n (omega (arith, t))
          c.rows.invariant.zero
          (λ m. c.sign_at_spot-here.ensures.value (within_row c.args.table.now.dict.now.labels root q m).0)
          (c.if-differs.ensures.no refl);
    }

pub returns : goal.returns
returns c =
    let a = (goal.at.returns c).After-root_labels-labels in
    let root = c.args.table.now.order.now in
    let f = reading_at (table_of c.args.table.now.dict.now) c.args.reading.now in
    let t = c.rows-test.false in
    record {
      sign = none_down f root (within c.args.table.now.dict.now.labels root) (root_ascends a) (ascends a) (inside a)
          (λ j x l m. c.rows.invariant.zero j (omega (arith, t)) l m);
      top = top_none c.args.table.now.dict.now root f (λ j x l m. c.rows.invariant.zero j (omega (arith, t)) l m);
    }
