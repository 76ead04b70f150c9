use Rattle.std.proofs.Common.{◌∙◌, ◌↔◌, sym, ap, subst, refl, neg_ℤ, ℕ, get_or}
use Rattle.std.specs.declared.cmp.Ordering.TheVariants.{Less}
use Rattle.std.specs.Bool.{IsTrue}
use Rattle.search_laws.specs.ChildTest.{downward, WouldEnter}
use Rattle.poly_model.specs.Dictionaries.{Table}
use Rattle.dictionary.specs.Views.{table_of}
use Rattle.lex_pivot.proofs.EarlierLemmas.{row_only, by_answer}
use Rattle.lex_pivot.proofs.ChildLemmas.{sum_enters, lead_enters}
use Rattle.lex_pivot.proofs.child.falls_after.Goals as goal

pub entry-f-requires-clause-row : goal.entry-f-requires-clause-row
entry-f-requires-clause-row c = (row_only c.args.dict.now.labels c.args.pivot.now.row c.requires.leaves.row.row).0

pub entry-requires-clause-row : goal.entry-requires-clause-row
entry-requires-clause-row c = (row_only c.args.dict.now.labels c.args.pivot.now.row c.requires.leaves.row.row).0

pub returns-then-is_zero : goal.returns-then-is_zero
returns-then-is_zero c =
    by_answer _ c.is_less.result c.at.result Less c.is_less.ensures.yes c.is_less.ensures.no
    (lead_enters (table_of c.args.dict.now) c.args.pivot.now.col c.args.pivot.now.row
    (get_or c.args.dict.now.columns c.args.j 0) (downward c.args.dict.now.labels c.args.order.now) c.at.result
    c.requires.leaves.negative
    (ap (λ (k : ℕ). Table.entry (table_of c.args.dict.now) c.args.pivot.now.row k) (sym c.label_of_column-other.ensures.value)
    ∙ sym c.entry-f.ensures.value ∙ c.if-is_zero.ensures.0 refl)
    (c.at.ensures ∙ c.requires.leads.leads.signs c.args.j c.requires.other))

pub returns : goal.returns
returns c =
    subst (λ (k : ℕ). IsTrue c.is_less-2.result ↔ WouldEnter (table_of c.args.dict.now) c.args.pivot.now.col
    c.args.pivot.now.row k (downward c.args.dict.now.labels c.args.order.now)) c.label_of_column-other.ensures.value
    (by_answer _ c.is_less-2.result c.root_sign.result Less c.is_less-2.ensures.yes c.is_less-2.ensures.no
    (sum_enters (table_of c.args.dict.now) c.args.pivot.now.col c.args.pivot.now.row c.label_of_column-other.result
    c.neg.result c.entry-f.result (downward c.args.dict.now.labels c.args.order.now) c.root_sign.result
    (c.neg.ensures ∙ ap neg_ℤ c.entry.ensures.value) c.entry-f.ensures.value c.root_sign.ensures))
