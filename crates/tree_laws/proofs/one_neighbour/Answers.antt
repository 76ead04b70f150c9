use Rattle.tree_laws.proofs.AnyTable.{leaves_too, neighbour_too}
use Rattle.tree_laws.proofs.Neighbours.{one_row, one_neighbour}
use Rattle.tree_laws.proofs.one_neighbour.Goals as goal

pub returns : goal.returns
returns c space root key home t u h d e s m = record {
  row = λ r q l k. one_row space root key t home h d s r q l (leaves_too space root key u t e d s q m k);
  neighbour = λ new other n k.
      one_neighbour space root key t home h d s new other n (neighbour_too space root key u t e d s other k);
}
