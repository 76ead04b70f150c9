use Rattle.std.proofs.Common.{sym, subst, get_or, ℕ}
use Rattle.dictionary.specs.Views.{table_of}
use Rattle.lex_pivot.specs.declared.reading.Reading.TheVariants.{Where}
use Rattle.lex_pivot.specs.Leads.{IsZeroBehind}
use Rattle.lex_pivot.specs.Readings.{reading_at}
use Rattle.lex_pivot.proofs.LeadLemmas.{zeros_behind}
use Rattle.lex_pivot.proofs.word_zeros.root_sign_on_zeros.Goals as goal

pub lead_from-requires-clause-behind : goal.lead_from-requires-clause-behind
lead_from-requires-clause-behind c =
    let d = c.args.table.now.dict.now in
    subst (λ (k : ℕ). IsZeroBehind d c.args.table.now.order.now (reading_at (table_of d) (Where k c.args.col)) c.top.result)
    (sym c.label_of_column.ensures.value)
    (subst (λ (n : ℕ). IsZeroBehind d c.args.table.now.order.now
    (reading_at (table_of d) (Where (get_or d.columns c.args.j 0) c.args.col)) n) (sym c.top.ensures)
    (zeros_behind d c.args.table.now.order.now (get_or d.columns c.args.j 0) c.args.col (get_or c.args.leads.now.tops c.args.j 0)
    (c.requires.leads.tops.each c.args.j c.requires.other).behind))
