use Rattle.run_laws.proofs.RunLaws.{fronts_stay_text}
use Rattle.run_laws.proofs.laws.fronts_stay_text.Goals as goal

pub returns : goal.returns
returns c = fronts_stay_text
