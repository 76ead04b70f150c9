use Rattle.std.proofs.Common.{ℕ, arith}
use Rattle.std.proofs.lemmas.List.{length-take}
use Rattle.poly_io.proofs.TakenLemmas.{takes_both_at_most}
use Rattle.poly_io.proofs.front.read_front.Goals as goal

pub returns-then-is_err-clause-taken : goal.returns-then-is_err-clause-taken
returns-then-is_err-clause-taken g c =
    takes_both_at_most _ _ _ _ _ _ c.pieces.invariant.taken c.in-Ok.ensures.bytes
    (omega (arith, c.pieces-test.true, c.in-Ok.ensures.bound, c.min-ask.ensures, length-take {A = ℕ}))
