use Rattle.search_laws.proofs.NeighbourSigns.{are_neighbour_entries}
use Rattle.search_laws.proofs.neighbour_signs.Goals as goal

pub returns : goal.returns
returns c space root key t d s r j m n o l = are_neighbour_entries space root key t d s r j m n o l
