use Rattle.cone_laws.proofs.FeasibleLemmas.{feasible_by_vertex, feasible_file_by_vertex}
use Rattle.cone_laws.proofs.feasible_has_extreme.Goals as goal

pub returns : goal.returns
returns c = record { system = feasible_by_vertex; file = feasible_file_by_vertex }
