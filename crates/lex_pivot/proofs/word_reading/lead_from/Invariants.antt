use Rattle.dictionary.specs.Views.{table_of}
use Rattle.lex_pivot.specs.Leads.{IsZeroBehind}
use Rattle.lex_pivot.specs.Readings.{reading_at}
use Rattle.lex_pivot.proofs.word_reading.lead_from.Given as goal

abbrev pub invariant-rows : goal.invariant-rows
invariant-rows l =
    IsZeroBehind l.table.dict.now l.table.order.now (reading_at (table_of l.table.dict.now) l.reading) l.n

abbrev pub decreases-rows : goal.decreases-rows
decreases-rows l = l.n
