use Rattle.std.proofs.Common.{◌∙◌, sym, subst, refl, true≢false, ℕ, get_or}
use Rattle.std.specs.declared.cmp.Ordering.TheVariants.{Less}
use Rattle.poly_model.specs.LexOrder.{IsEarlier}
use Rattle.search_laws.specs.ChildTest.{neighbour_entry, downward}
use Rattle.dictionary.specs.Views.{table_of}
use Rattle.lex_pivot.proofs.EarlierLemmas.{by_answer}
use Rattle.lex_pivot.proofs.FirstSigns.{values_less}
use Rattle.lex_pivot.proofs.word_child.would_enter.Goals as goal

pub returns : goal.returns
returns c =
    let d = c.args.table.now.dict.now in
    let root = c.args.table.now.order.now in
    let label = c.label_of_column-other.ensures.value in
    let falls = by_answer _ c.is_less.result c.sign_after.result Less c.is_less.ensures.yes c.is_less.ensures.no
    (values_less (neighbour_entry (table_of d) c.args.pivot.now.col c.args.pivot.now.row (get_or d.columns c.args.j 0))
    (downward d.labels root) c.sign_after.result c.sign_after.ensures) in (
      (λ t. record {
        other = λ e. true≢false (sym (c.if-is_same.ensures.1 (label ∙ e)));
        before = subst (λ (k : ℕ). IsEarlier d.labels root k c.args.pivot.now.row) label (c.if-not-comes_before.ensures.0 refl);
        enters = falls.0 t;
      }),
      (λ x. falls.1 x.enters),
    )
