use Rattle.search_laws.proofs.MainStart.{main_start}
use Rattle.search_laws.proofs.main_has_start.Goals as goal

pub returns : goal.returns
returns c p free f few h start s = main_start p free f few h start s
