use Rattle.run_state.proofs.LegalLaws.{legal_records_part}
use Rattle.run_state.proofs.laws.legal_records_part.Goals as goal

pub returns : goal.returns
returns c = legal_records_part
