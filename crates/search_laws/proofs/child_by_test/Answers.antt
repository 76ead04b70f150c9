use Rattle.search_laws.proofs.ChildTest.{child_by_test}
use Rattle.search_laws.proofs.child_by_test.Goals as goal

pub returns : goal.returns
returns c = child_by_test
