use Rattle.std.proofs.Common.{sym, subst, refl, true≢false}
use Rattle.poly_model.specs.Keys.{IsAscending}
use Rattle.lex_pivot.proofs.ChildLemmas.{decides}
use Rattle.lex_pivot.proofs.child.is_child.Goals as goal

pub returns-then-not-leads_up-clause-child : goal.returns-then-not-leads_up-clause-child
returns-then-not-leads_up-clause-child c =
    decides c.args.dict.now c.args.order.now c.args.col c.args.row _
    (subst IsAscending c.labels-all.ensures.value c.labels-all.ensures.ascending) c.requires.column c.requires.leaves
    ((λ t. absurd (true≢false (sym t))), (λ w. c.if-not-leads_up.ensures.1 w.lead))

pub returns-clause-child : goal.returns-clause-child
returns-clause-child c =
    decides c.args.dict.now c.args.order.now c.args.col c.args.row c.none_enters_first.result
    (subst IsAscending c.labels-all.ensures.value c.labels-all.ensures.ascending) c.requires.column c.requires.leaves (
      (λ t. record {
        lead = c.if-not-leads_up.ensures.0 refl;
        others = λ j m o b w. c.none_enters_first.ensures.0 t j m (record { other = o; before = b; enters = w });
      }),
      (λ w. c.none_enters_first.ensures.1 (λ j m x. w.others j m x.other x.before x.enters)),
    )
