use Rattle.std.proofs.Common.{refl}
use Rattle.linear_laws.specs.Frames.{rows_of}
use Rattle.linear_laws.proofs.TestLemmas.{test_is_first}
use Rattle.linear_laws.proofs.local_test.Goals as goal

pub returns : goal.returns
returns c n D c' later before y gs ms f m l z = test_is_first n D c' later before (rows_of before) y gs ms f refl m l z
