use Rattle.std.proofs.Common.{sym, subst, List, ℕ}
use Rattle.dictionary.specs.Views.{Dictionary}
use Rattle.lex_pivot.specs.Leads.{AreLeads}
use Rattle.convert_core.specs.Rows.{CanTest}
use Rattle.convert_core.proofs.Searching.{can_test}
use Rattle.convert_core.proofs.walk.show.Goals as goal

pub show_columns-requires-clause-can : goal.show_columns-requires-clause-can
show_columns-requires-clause-can g c =
    let search = c.args.search.now in
    subst (λ d. CanTest search.cone d search.rays) (sym c.dict.ensures)
    (can_test search.poly.now search.cone search.rays search.walker search.vector.items c.requires.search)

pub show_columns-requires-clause-leads : goal.show_columns-requires-clause-leads
show_columns-requires-clause-leads g c =
    subst (λ (d : Dictionary). AreLeads d c.order.result.now c.leads.result.now) (sym c.dict.ensures)
    (subst (λ (root : List ℕ). AreLeads c.args.search.now.walker.dict root c.leads.result.now) (sym c.order.ensures)
    c.leads.ensures)
