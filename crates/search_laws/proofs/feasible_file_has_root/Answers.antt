use Rattle.search_laws.proofs.MainStart.{feasible_root}
use Rattle.search_laws.proofs.feasible_file_has_root.Goals as goal

pub returns : goal.returns
returns c p free f few e = feasible_root p free f few e
