-- A pivot of the row of the ratio test leads to a neighbour, which is a child or the parent.
use Rattle.std.proofs.Common.{◌≡◌, ℕ, List, sym, subst}
use Rattle.std.specs.List.{Contains}
use Rattle.poly_model.specs.LexOrder.{rows_in}
use Rattle.std.specs.List.{All}
use Rattle.poly_model.specs.Spaces.{Space}
use Rattle.poly_model.specs.Dictionaries.{Table}
use Rattle.poly_model.specs.Tree.{IsRowDictionary, IsLexFeasible, Leaves, IsNeighbour, IsParent, Enters, exchanged_key}
use Rattle.dictionary.specs.Views.{Dictionary, table_of, IsDictionaryIn, IsPivot}
use Rattle.tree_laws.proofs.ExchangedKeys.{exchanges, ascending_exchanged}
use Rattle.tree_laws.proofs.Neighbours.{neighbour_dictionary, neighbour_feasible}
use Rattle.tree_laws.proofs.Back.{child_is_neighbour}
use Rattle.search_laws.specs.Shares.{IsChild}
use Rattle.lex_pivot.specs.Above.{LeadsToParent}
use Rattle.lex_pivot.proofs.PivotLemmas.{same_exchange}
use Rattle.reverse_step.specs.Walks.{Stands}
use Rattle.search_laws.specs.Shares.{IsChildAt}
use Rattle.reverse_step.specs.Children.{LeadsToChild}

-- the pivot in the column of s, where row r leaves
module _ (old new : Dictionary) (root : List ℕ) (s r : ℕ) (c : Contains old.key s)
    (l : Leaves old.labels root old.key (table_of old) s r) (p : IsPivot old r s new) where
  module _ (space : Space) (home : Table) (st : Stands space home root old) where
    row : Leaves space.labels root old.key (table_of old) s r
    row = subst (λ ls. Leaves ls root old.key (table_of old) s r) st.dictionary.labels l

    new_key : new.key ≡ exchanged_key old.key s r
    new_key =
        same_exchange old.key new.key (exchanged_key old.key s r) r s p.key.exchanges
        (exchanges old.key s r st.feasible.dictionary.ascending row.row.outside) p.key.is_key.ascending
        (ascending_exchanged old.key s r st.feasible.dictionary.ascending)

    abbrev neighbour : IsNeighbour space.labels root old.key (table_of old) s new.key
    neighbour = record { column = c; r = r; leaves = row; exchange = new_key }

    new_in : IsDictionaryIn space new
    new_in = p.dictionary space st.feasible.dictionary.points st.dictionary

    new_rows : IsRowDictionary space new.key (table_of new)
    new_rows =
        let w = neighbour_dictionary space root old.key (table_of old) s new.key st.feasible.dictionary neighbour in
        record { points = w.1.points; ascending = w.1.ascending; rows = w.1.rows; dictionary = new_in.dictionary }

    new_feasible : IsLexFeasible space root new.key (table_of new)
    new_feasible =
        neighbour_feasible space root old.key (table_of old) s new.key home (table_of new)
        st.feasible_root.dictionary st.feasible neighbour new_rows

    pub new_stands : Stands space home root new
    new_stands = record {
      ascending = st.ascending;
      feasible_root = st.feasible_root;
      dictionary = new_in;
      feasible = new_feasible;
    }

    -- down
    pub child_here : LeadsToChild root old s r → IsChildAt space root old.key s new.key
    child_here h = record {
      child = subst (IsChild space root old.key) (sym new_key) (h.child space home st);
      table = table_of old;
      dictionary = st.feasible.dictionary;
      neighbour = neighbour;
    }

    -- up
    module _ (h : LeadsToParent old root s r) where
      abbrev parent : IsParent space.labels root old.key (table_of old) new.key
      parent = record {
        s = s;
        enters = subst (λ ls. Enters ls root old.key (table_of old) s) st.dictionary.labels
            (h.enters.enters (subst (λ ls. All (Contains (rows_in ls)) old.key) (sym st.dictionary.labels)
            st.feasible.dictionary.rows));
        neighbour = neighbour;
      }

      pub parent_here : IsChildAt space root new.key r old.key
      parent_here = record {
        child = (table_of old, st.feasible, parent);
        table = table_of new;
        dictionary = new_rows;
        neighbour = (child_is_neighbour space root old.key new.key (table_of old) (table_of new) st.feasible new_feasible
            parent).0;
      }
