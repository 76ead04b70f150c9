-- Reverse search is complete, and shows nothing twice: the laws of the tree together.
use Rattle.std.proofs.Common.{ℕ, List}
use Rattle.poly_model.specs.Systems.{Polyhedron}
use Rattle.poly_model.specs.Spaces.{Space, main_space, lifted}
use Rattle.poly_model.specs.Dictionaries.{Table}
use Rattle.poly_model.specs.LexOrder.{rows_in}
use Rattle.poly_model.specs.Tree.{IsFeasibleRoot}
use Rattle.linear_laws.specs.Distinct.{AreDistinct}
use Rattle.tree_laws.specs.ReverseSearch.{IsSearched, SearchesPolyhedron}
use Rattle.tree_laws.proofs.Roots.{root_is_feasible}
use Rattle.tree_laws.proofs.Parents.{root_or_child, one_parent}
use Rattle.tree_laws.proofs.Chains.{under_the_root, one_depth}
use Rattle.tree_laws.proofs.Neighbours.{neighbour_dictionary, neighbour_feasible}
use Rattle.tree_laws.proofs.Back.{child_is_neighbour}
use Rattle.tree_laws.proofs.ShownOnce.{shown_once, only_extreme}
use Rattle.tree_laws.proofs.AscendingRows.{main_rows_ascend, first_rows_ascend}

pub reverse_search : (space : Space) (root : List ℕ) (home : Table) → AreDistinct (rows_in space.labels) →
    IsFeasibleRoot space root home → IsSearched space root home
reverse_search space root home distinct h = record {
  root_feasible = root_is_feasible space root home h;
  root_or_child = λ key t f. root_or_child space root key home t h f;
  parent_feasible = λ key parent t f p. record {
    some = neighbour_dictionary space root key t p.s parent f.dictionary p.neighbour;
    feasible = λ u d. neighbour_feasible space root key t p.s parent home u h.dictionary f p.neighbour d;
  };
  one_parent = λ key parent other t u f g p q.
      one_parent space root key parent other home t u distinct h.dictionary f.dictionary g.dictionary p q;
  child_is_neighbour = λ key parent t u f g p. child_is_neighbour space root key parent t u f g p;
  under_the_root = λ key t f. under_the_root space root home h key t f;
  one_depth = λ key t f m n a b. one_depth space root home h.dictionary distinct m n key t f a b;
  each_once = λ y extreme. shown_once space root home y extreme h distinct;
  only_extreme = λ key t place y f s. only_extreme space root key t place y f s;
}

pub search_of_polyhedron : (p : Polyhedron) (free : List ℕ) →
    SearchesPolyhedron p free
search_of_polyhedron p free = record {
  main = λ root home h. reverse_search (main_space p free) root home (main_rows_ascend p free).distinct h;
  first = λ start root home h.
      reverse_search (lifted (main_space p free) start) root home (first_rows_ascend p free start).distinct h;
}
