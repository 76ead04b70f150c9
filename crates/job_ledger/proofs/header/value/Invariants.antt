use Rattle.std.proofs.Common.{◌≡◌, ◌-◌, ◌^◌, take}
use Rattle.std.specs.Prelude.{min}
use Rattle.job_ledger.specs.Values.{decimal_value}
use Rattle.job_ledger.proofs.header.value.Given as goal

abbrev pub invariant-loop-byte : goal.invariant-loop-byte
invariant-loop-byte l = l.value ≡ min (decimal_value (take l.byte-index l.text)) (2 ^ 64 - 1)
