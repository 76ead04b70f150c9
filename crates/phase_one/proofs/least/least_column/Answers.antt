use Rattle.std.proofs.Common.{◌≡◌, ◌∙◌, sym, ap, subst, arith, ◌<◌, length, take, get_or, ℕ, List}
use Rattle.std.specs.List.{Contains}
use Rattle.std.proofs.lemmas.List.{get_or_default, take_all}
use Rattle.poly_model.specs.LexOrder.{rows_in}
use Rattle.lex_pivot.proofs.RatioLemmas.{one_more}
use Rattle.phase_one.specs.SoFar.{IsLeastSoFar}
use Rattle.phase_one.specs.Columns.{HasSought, IsNotLater}
use Rattle.phase_one.proofs.least.least_column.Goals as goal

pub earlier-least-requires-clause-row : goal.earlier-least-requires-clause-row
earlier-least-requires-clause-row c =
    let l : c.columns.i < length c.cobasis-labels.result.now =
    (let t = c.columns-test.true in let b = c.columns.auto.i-end in omega arith) in
    let e : c.index-labels-i.result ≡ get_or c.cobasis-labels.result.now c.columns.i 0 =
    c.index-labels-i.is ∙ get_or_default c.cobasis-labels.result.now c.columns.i c.index-labels-i.result 0 l in
    let v = c.cobasis-labels.ensures.value in
    subst (λ (k : ℕ). Contains (rows_in c.args.dict.now.labels) k)
    (sym (e ∙ ap (λ (ks : List ℕ). get_or ks c.columns.i 0) v))
    (c.requires.rows c.columns.i 0 (subst (λ (ks : List ℕ). c.columns.i < length ks) v l))

pub columns-preserved : goal.columns-preserved
columns-preserved c =
    let l : c.columns.i < length c.cobasis-labels.result.now =
    (let t = c.columns-test.true in let b = c.columns.auto.i-end in omega arith) in
    let e : c.index-labels-i.result ≡ get_or c.cobasis-labels.result.now c.columns.i 0 =
    c.index-labels-i.is ∙ get_or_default c.cobasis-labels.result.now c.columns.i c.index-labels-i.result 0 l in (
      c.earlier-least.ensures.row,
      subst (λ (ks : List ℕ). IsLeastSoFar (HasSought c.args.dict.now c.args.sought)
          (IsNotLater c.args.dict.now.labels c.args.order.now) ks c.earlier-least.result)
          (one_more c.cobasis-labels.result.now c.columns.i c.index-labels-i.result l e)
          (c.earlier-least.ensures.least (take c.columns.i c.cobasis-labels.result.now) c.columns.invariant.1),
    )

pub returns : goal.returns
returns c =
    let l = c.columns-test.false in
    let b = c.columns.auto.i-end in
    subst (λ (ks : List ℕ). IsLeastSoFar (HasSought c.args.dict.now c.args.sought)
    (IsNotLater c.args.dict.now.labels c.args.order.now) ks c.columns.least)
    (take_all c.columns.i c.cobasis-labels.result.now (omega arith) ∙ c.cobasis-labels.ensures.value) c.columns.invariant.1
