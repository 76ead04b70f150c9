use Rattle.linear_laws.proofs.TestLemmas.{row_test}
use Rattle.linear_laws.proofs.row_test.Goals as goal

pub returns : goal.returns
returns c = row_test
