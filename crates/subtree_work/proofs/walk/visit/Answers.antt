use Rattle.std.proofs.Common.{◌≤◌, List, ℕ, length, sym, subst}
use Rattle.poly_model.specs.Labels.{coordinates_from}
use Rattle.poly_model.specs.Limits.{most_columns}
use Rattle.poly_model.specs.Spaces.{main_space}
use Rattle.poly_model.specs.Systems.{System}
use Rattle.dictionary.specs.Views.{Dictionary, table_of}
use Rattle.lex_pivot.specs.Leads.{AreLeads}
use Rattle.convert_core.specs.Rows.{CanTest}
use Rattle.convert_core.proofs.Searching.{can_test}
use Rattle.reverse_step.proofs.DepthLemmas.{few_labels}
use Rattle.subtree_work.proofs.walk.visit.Goals as goal

pub show_columns-requires-clause-can : goal.show_columns-requires-clause-can
show_columns-requires-clause-can g c =
    let search = c.args.search.now in
    let file = c.requires.search.file in
    let x = c.requires.search.each file.0 file.1 in
    let st = x.walk_in.stands in
    record {
      tests = subst (λ (d : Dictionary). CanTest search.sys.now d search.rays) (sym c.dict.ensures)
          (can_test file.0 search.sys.now search.rays search.walker search.vector.items x);
      leads = subst (λ (d : Dictionary). AreLeads d c.order.result.now c.leads.result.now) (sym c.dict.ensures)
          (subst (λ (root : List ℕ). AreLeads search.walker.dict root c.leads.result.now) (sym c.order.ensures) c.leads.ensures);
      narrow = subst (λ (s : System). s.n ≤ most_columns) (sym file.1) x.narrow;
      few = subst (λ (d : Dictionary). length d.key ≤ coordinates_from) (sym c.dict.ensures)
          (few_labels (main_space file.0 x.free) search.walker.root x.home st.feasible_root st.ascending
          search.walker.dict.key (table_of search.walker.dict) st.feasible);
    }
