use Rattle.run_state.proofs.LegalLaws.{honest_keys_are_new}
use Rattle.run_state.proofs.laws.honest_keys_are_new.Goals as goal

pub returns : goal.returns
returns c = honest_keys_are_new
