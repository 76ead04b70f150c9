use Rattle.reverse_step.proofs.ChildLemmas.{none_leaves, leads_nowhere, leads_to_child, not_a_child}
use Rattle.reverse_step.proofs.children.child_at.Goals as goal

pub returns-then-not-leads_up : goal.returns-then-not-leads_up
returns-then-not-leads_up c =
    leads_nowhere c.args.dict.now c.args.order.now c.args.col
    (λ l. let t = c.leads_up.ensures.1 l in let n = c.if-not-leads_up.true in cc)

pub returns-in_default : goal.returns-in_default
returns-in_default c = none_leaves c.args.dict.now c.args.order.now c.args.col c.in_default.ensures

pub returns-then-is_child : goal.returns-then-is_child
returns-then-is_child c =
    leads_to_child c.args.dict.now c.args.order.now c.args.col c.in-Some.row c.requires.column c.in-Some.ensures
    c.if-is_child.ensures.child

pub returns-else-is_child : goal.returns-else-is_child
returns-else-is_child c =
    not_a_child c.args.dict.now c.args.order.now c.args.col c.in-Some.row c.requires.column c.in-Some.ensures
    c.if-is_child.ensures.child
