use Rattle.poly_model.specs.LexOrder.{within}
use Rattle.dictionary.specs.Views.{table_of}
use Rattle.lex_pivot.specs.Readings.{reading_at}
use Rattle.lex_pivot.proofs.FirstSigns.{IsZeroFrom}
use Rattle.lex_pivot.proofs.scan.root_lead.Given as goal

abbrev pub invariant-rows : goal.invariant-rows
invariant-rows l =
    IsZeroFrom (reading_at (table_of l.dict) l.reading) l.labels (within l.dict.labels l.order) l.n
