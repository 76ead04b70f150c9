use Rattle.std.proofs.Common.{refl, rules}
use Rattle.job_ledger.specs.Values.{decimal_value}
use Rattle.job_ledger.proofs.HeaderLemmas.{value_more}
use Rattle.job_ledger.proofs.header.value.Goals as goal

pub loop-byte-init : goal.loop-byte-init
unfolding decimal_value
loop-byte-init c = refl

pub loop-byte-preserved : goal.loop-byte-preserved
loop-byte-preserved c = value_more c.args.text.now c.loop-byte.byte-index 0 c.loop-byte-test.true _ c.loop-byte.invariant _ (search rules)
