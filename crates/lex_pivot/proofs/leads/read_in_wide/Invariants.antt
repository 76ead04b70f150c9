use Rattle.lex_pivot.proofs.LeadLemmas.{AreLeadsTo}
use Rattle.lex_pivot.proofs.leads.read_in_wide.Given as goal

abbrev pub invariant-columns : goal.invariant-columns
invariant-columns l = AreLeadsTo l.dict l.order l.j l.signs l.tops
