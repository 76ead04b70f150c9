use Rattle.search_laws.proofs.FeasibleFiles.{feasible_files}
use Rattle.search_laws.proofs.feasible_files.Goals as goal

pub returns : goal.returns
returns c = feasible_files
