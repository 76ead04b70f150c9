use Rattle.job_ledger.proofs.LayoutLemmas.{one_layout}
use Rattle.job_ledger.proofs.laws.one_layout.Goals as goal

pub returns : goal.returns
returns c file = one_layout file
