use Rattle.poly_model.specs.LexOrder.{outside}
use Rattle.dictionary.specs.Views.{table_of}
use Rattle.lex_pivot.specs.Pairs.{gap_at}
use Rattle.lex_pivot.proofs.FirstSigns.{IsZeroBelow}
use Rattle.lex_pivot.proofs.word_ties.compare_behind.Given as goal

abbrev pub invariant-labels : goal.invariant-labels
invariant-labels l =
    IsZeroBelow (gap_at l.table.dict.now.key (table_of l.table.dict.now) l.pair) l.table.before.now (outside l.table.dict.now.labels l.table.order.now) l.k-index
