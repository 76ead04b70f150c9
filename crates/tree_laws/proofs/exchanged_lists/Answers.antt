use Rattle.tree_laws.proofs.ExchangedKeys.{exchanges}
use Rattle.tree_laws.proofs.Exchange.{exchanged_dictionary, back_entry, leaving_list, exchanged_list}
use Rattle.poly_model.specs.Tree.{exchanged_key}
use Rattle.tree_laws.proofs.exchanged_lists.Goals as goal

pub returns : goal.returns
returns c space key t d s r m o n = record {
  some = exchanged_dictionary space key t d s r m o n;
  lists = λ root u e.
      let x = exchanges key s r d.ascending o.outside in
      record {
        entry = back_entry space key (exchanged_key key s r) t u d e s r m o x;
        leaving = leaving_list space key (exchanged_key key s r) t u d e s r m o x root;
        others = exchanged_list space key (exchanged_key key s r) t u d e s r m o x root;
      };
}
