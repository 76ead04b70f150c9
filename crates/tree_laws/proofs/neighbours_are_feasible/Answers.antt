use Rattle.tree_laws.proofs.Neighbours.{neighbour_dictionary, neighbour_feasible}
use Rattle.tree_laws.proofs.neighbours_are_feasible.Goals as goal

pub returns : goal.returns
returns c space root key new home t h f s n = record {
  some = neighbour_dictionary space root key t s new f.dictionary n;
  feasible = λ u e. neighbour_feasible space root key t s new home u h f n e;
}
