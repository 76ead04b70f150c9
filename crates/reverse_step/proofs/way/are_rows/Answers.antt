use Rattle.std.proofs.Common.{refl, arith}
use Rattle.std.specs.List.{Contains}
use Rattle.poly_model.specs.LexOrder.{rows_in}
use Rattle.lex_pivot.proofs.EarlierLemmas.{at_each}
use Rattle.reverse_step.proofs.WayLemmas.{and_one}
use Rattle.reverse_step.proofs.way.are_rows.Goals as goal

pub labels-preserved : goal.labels-preserved
labels-preserved c =
    and_one (Contains (rows_in c.args.dict.now.labels)) c.args.labels.now c.labels.label-index c.label-item.result
    (let l = c.labels-test.true in let b = c.labels.auto.label-index-end in omega arith) c.label-item.is
    (c.if-not-is_row_of.ensures.0 refl) c.labels.invariant

pub returns : goal.returns
returns c = (
  (λ t. at_each (Contains (rows_in c.args.dict.now.labels)) c.args.labels.now c.labels.label-index
      (let l = c.labels-test.false in let b = c.labels.auto.label-index-end in omega arith) c.labels.invariant),
  (λ h. refl),
)
