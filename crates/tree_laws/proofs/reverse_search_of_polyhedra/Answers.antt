use Rattle.tree_laws.proofs.ReverseSearch.{search_of_polyhedron}
use Rattle.tree_laws.proofs.reverse_search_of_polyhedra.Goals as goal

pub returns : goal.returns
returns c p free = search_of_polyhedron p free
