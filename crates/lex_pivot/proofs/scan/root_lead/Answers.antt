use Rattle.std.proofs.Common.{◌≡◌, ◌∙◌, ◌+◌, ap, sym, subst, refl, arith, ◌-◌, ◌<◌, length, get_or, ℕ, List}
use Rattle.std.specs.List.{Contains}
use Rattle.poly_model.specs.Keys.{IsAscending}
use Rattle.poly_model.specs.LexOrder.{rows_in, within}
use Rattle.dictionary.specs.Views.{table_of}
use Rattle.lex_pivot.specs.Readings.{reading_at}
use Rattle.lex_pivot.proofs.EarlierLemmas.{within_row, within_member, within_ascending, read_at}
use Rattle.lex_pivot.proofs.FirstSigns.{IsZeroFrom, found_down, kept_down, none_down, sign_zero}
use Rattle.lex_pivot.proofs.LeadLemmas.{top_found, top_none}
use Rattle.lex_pivot.proofs.scan.root_lead.Goals.{After-root_labels-labels}
use Rattle.lex_pivot.proofs.scan.root_lead.Goals as goal

ascends : (c : After-root_labels-labels) → IsAscending (within c.args.dict.now.labels c.args.order.now)
ascends c =
    within_ascending c.args.dict.now.labels c.args.order.now
    (subst IsAscending c.labels-labels.ensures.value c.labels-labels.ensures.ascending)

inside : (c : After-root_labels-labels) (k : ℕ) →
    Contains (within c.args.dict.now.labels c.args.order.now) k → Contains c.root_labels-labels.result.now k
inside c k m =
    subst (λ (ks : List ℕ). Contains ks k) (sym c.root_labels-labels.ensures.value)
    (within_row c.args.dict.now.labels c.args.order.now k m).1

member : (c : After-root_labels-labels) (n q : ℕ) → q ≡ get_or c.root_labels-labels.result.now n q →
    n < length c.root_labels-labels.result.now → Contains (rows_in c.args.dict.now.labels) q →
    Contains (within c.args.dict.now.labels c.args.order.now) q
member c n q e l m =
    within_member c.args.dict.now.labels c.args.order.now q m
    (subst (λ (ks : List ℕ). Contains ks q) c.root_labels-labels.ensures.value (n, l, sym e))

zero : (c : After-root_labels-labels) (n : ℕ) → IsZeroFrom (reading_at (table_of c.args.dict.now) c.args.reading.now)
    c.root_labels-labels.result.now (within c.args.dict.now.labels c.args.order.now) n →
    IsZeroFrom (reading_at (table_of c.args.dict.now) c.args.reading.now) c.args.order.now
    (within c.args.dict.now.labels c.args.order.now) n
zero c n h =
    subst (λ (ks : List ℕ). IsZeroFrom (reading_at (table_of c.args.dict.now) c.args.reading.now) ks
    (within c.args.dict.now.labels c.args.order.now) n) c.root_labels-labels.ensures.value h

pub returns-then-differs : goal.returns-then-differs
returns-then-differs c =
    let a = (goal.at.returns-then-differs c).After-root_labels-labels in
    let f = reading_at (table_of c.args.dict.now) c.args.reading.now in
    let d = c.if-differs.ensures.yes refl in
    let m = c.row_sign-here.ensures.row d in
    let t = c.rows-test.true in
    let l : c.rows.n - 1 < length c.root_labels-labels.result.now = (let b = c.rows.auto.n in omega arith) in
    let n : length c.root_labels-labels.result.now ≡ length c.args.order.now = ap length c.root_labels-labels.ensures.value in
    let q = c.index-labels-n.result in
    let p = member a (c.rows.n - 1) q c.index-labels-n.is l m in
    record {
      sign = found_down f c.root_labels-labels.result.now (within c.args.dict.now.labels c.args.order.now)
          c.root_labels-labels.ensures.ascending (ascends a) (inside a) (c.rows.n - 1) q l c.index-labels-n.is
          c.row_sign-here.result c.rows.n (omega (arith, t)) c.rows.invariant d p (c.row_sign-here.ensures.value m);
      top = top_found c.args.dict.now c.args.order.now f (c.rows.n - 1 + 1) (c.rows.n - 1) q refl (omega (arith, l, n))
          (read_at c.root_labels-labels.result.now c.args.order.now c.root_labels-labels.ensures.value (c.rows.n - 1) q
          (omega (arith, l, n)) c.index-labels-n.is)
          (λ j x y z. zero a c.rows.n c.rows.invariant j (omega (arith, x, t)) y z) p
          (λ z. d (c.row_sign-here.ensures.value m ∙ sign_zero (f q) z));
    }

pub rows-preserved : goal.rows-preserved
rows-preserved c =
    let a = (goal.at.rows-preserved c).After-root_labels-labels in
    kept_down (reading_at (table_of c.args.dict.now) c.args.reading.now) c.root_labels-labels.result.now
    (within c.args.dict.now.labels c.args.order.now) c.root_labels-labels.ensures.ascending
    (ascends a) (inside a) (c.rows.n - 1) c.index-labels-n.result
    (let t = c.rows-test.true in let b = c.rows.auto.n in omega arith) c.index-labels-n.is c.row_sign-here.result
    c.rows.n (let t = c.rows-test.true in omega arith) c.rows.invariant
    (λ m. c.row_sign-here.ensures.value (within_row c.args.dict.now.labels c.args.order.now c.index-labels-n.result m).0)
    (c.if-differs.ensures.no refl)

pub returns : goal.returns
returns c =
    let a = (goal.at.returns c).After-root_labels-labels in
    let t = c.rows-test.false in
    record {
      sign = none_down (reading_at (table_of c.args.dict.now) c.args.reading.now) c.root_labels-labels.result.now
          (within c.args.dict.now.labels c.args.order.now) c.root_labels-labels.ensures.ascending (ascends a) (inside a)
          (λ j l m. c.rows.invariant j (omega (arith, t)) m);
      top = top_none c.args.dict.now c.args.order.now (reading_at (table_of c.args.dict.now) c.args.reading.now)
          (λ j x y z. zero a c.rows.n c.rows.invariant j (omega (arith, t)) y z);
    }
