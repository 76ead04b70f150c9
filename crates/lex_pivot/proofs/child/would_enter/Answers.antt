use Rattle.std.proofs.Common.{◌∙◌, sym, subst, refl, true≢false, ℕ}
use Rattle.poly_model.specs.LexOrder.{IsEarlier}
use Rattle.lex_pivot.proofs.child.would_enter.Goals as goal

pub returns-then-is_same : goal.returns-then-is_same
returns-then-is_same c = (
  (λ t. absurd (true≢false (sym t))),
  (λ x. absurd (x.other (sym c.label_of_column-other.ensures.value ∙ c.if-is_same.ensures.0 refl))),
)

pub returns : goal.returns
returns c =
    let label = c.label_of_column-other.ensures.value in (
      (λ t. record {
        other = λ e. true≢false (sym (c.if-is_same.ensures.1 (label ∙ e)));
        before = subst (λ (k : ℕ). IsEarlier c.args.dict.now.labels c.args.order.now k c.args.pivot.now.row) label
            (c.if-not-comes_before.ensures.0 refl);
        enters = c.falls_after.ensures.0 t;
      }),
      (λ x. c.falls_after.ensures.1 x.enters),
    )
