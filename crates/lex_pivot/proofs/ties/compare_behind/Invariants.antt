use Rattle.poly_model.specs.LexOrder.{outside}
use Rattle.dictionary.specs.Views.{table_of}
use Rattle.lex_pivot.specs.Pairs.{gap_at}
use Rattle.lex_pivot.proofs.FirstSigns.{IsZeroBelow}
use Rattle.lex_pivot.proofs.ties.compare_behind.Given as goal

abbrev pub invariant-labels : goal.invariant-labels
invariant-labels l =
    IsZeroBelow (gap_at l.dict.key (table_of l.dict) l.pair) l.before (outside l.dict.labels l.order) l.k-index
