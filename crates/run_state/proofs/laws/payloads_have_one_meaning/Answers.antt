use Rattle.run_state.proofs.MeaningLaws.{payloads_have_one_meaning}
use Rattle.run_state.proofs.laws.payloads_have_one_meaning.Goals as goal

pub returns : goal.returns
returns c = payloads_have_one_meaning
