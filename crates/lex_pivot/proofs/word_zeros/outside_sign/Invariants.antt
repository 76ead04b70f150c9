use Rattle.poly_model.specs.LexOrder.{outside}
use Rattle.dictionary.specs.Views.{table_of}
use Rattle.lex_pivot.specs.Readings.{reading_at}
use Rattle.lex_pivot.proofs.FirstSigns.{IsZeroFrom}
use Rattle.lex_pivot.proofs.word_zeros.outside_sign.Given as goal

abbrev pub invariant-rows : goal.invariant-rows
invariant-rows l =
    IsZeroFrom (reading_at (table_of l.table.dict.now) l.reading) l.labels (outside l.table.dict.now.labels l.table.order.now) l.n
