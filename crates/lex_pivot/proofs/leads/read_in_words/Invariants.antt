use Rattle.lex_pivot.proofs.LeadLemmas.{AreLeadsTo}
use Rattle.lex_pivot.proofs.leads.read_in_words.Given as goal

abbrev pub invariant-columns : goal.invariant-columns
invariant-columns l = AreLeadsTo l.table.dict.now l.table.order.now l.j l.signs l.tops
