use Rattle.search_laws.proofs.StartWithT.{dictionary_with_t}
use Rattle.search_laws.proofs.start_with_t.Goals as goal

pub returns : goal.returns
returns c = λ space start t none d. dictionary_with_t space start none t d
