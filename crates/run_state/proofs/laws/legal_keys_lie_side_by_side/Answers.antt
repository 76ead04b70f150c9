use Rattle.run_state.proofs.LegalLaws.{legal_keys_lie_side_by_side}
use Rattle.run_state.proofs.laws.legal_keys_lie_side_by_side.Goals as goal

pub returns : goal.returns
returns c = legal_keys_lie_side_by_side
