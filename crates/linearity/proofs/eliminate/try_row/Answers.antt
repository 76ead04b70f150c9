use Rattle.std.proofs.Common.{ℕ, subst, IfErr, IfOk}
use Rattle.std.proofs.lemmas.Result.{IfOk-weaker}
use Rattle.linearity.specs.Turns.{IsEntered, OverflowsFor}
use Rattle.linearity.proofs.Tries.{shape_after, tries_none, tries_one}
use Rattle.linearity.proofs.eliminate.try_row.Goals as goal

pub returns-then-is_tried-clause-tried : goal.returns-then-is_tried-clause-tried
returns-then-is_tried-clause-tried c =
    IfOk-weaker c.enter.result _ _
    (λ _ h. tries_one c.args.sys.now c.args.pass c.args.i c.requires.few
    (c.is_tried.ensures.kind c.if-is_tried.true)
    c.args.dict.now c.enter.new.dict h)
    (subst (λ k. IfOk c.enter.result (λ _. IsEntered c.args.dict.now k c.enter.new.dict)) c.row.ensures
    c.enter.ensures.entered)

pub returns-then-is_tried-clause-shape : goal.returns-then-is_tried-clause-shape
returns-then-is_tried-clause-shape c =
    shape_after c.args.dict.now c.enter.new.dict c.args.i c.enter.result c.requires.few
    (subst (λ k. IfOk c.enter.result (λ _. IsEntered c.args.dict.now k c.enter.new.dict)) c.row.ensures
    c.enter.ensures.entered)
    c.enter.ensures.unchanged

pub returns-else-is_tried-clause-tried : goal.returns-else-is_tried-clause-tried
returns-else-is_tried-clause-tried c =
    tries_none c.args.sys.now c.args.pass c.args.i c.args.dict.now
    (c.is_tried.ensures.otherwise c.if-is_tried.false)

pub returns-then-is_tried-clause-overflows : goal.returns-then-is_tried-clause-overflows
returns-then-is_tried-clause-overflows c =
    subst (λ i. IfErr c.enter.result (λ o. (k : ℕ) × OverflowsFor c.args.dict.now i k o)) c.row.ensures
    c.enter.ensures.overflows
