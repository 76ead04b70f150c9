use Rattle.poly_model.specs.LexOrder.{outside, listed_at}
use Rattle.dictionary.specs.Views.{table_of}
use Rattle.lex_pivot.proofs.FirstSigns.{IsZeroBelow}
use Rattle.lex_pivot.proofs.feasible.list_sign.Given as goal

abbrev pub invariant-labels : goal.invariant-labels
invariant-labels l =
    IsZeroBelow (listed_at l.dict.key (table_of l.dict) l.row) l.labels (outside l.dict.labels l.order) l.k-index
