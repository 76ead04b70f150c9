use Rattle.std.proofs.Common.{◌∙◌, ap, length, take-add, arith}
use Rattle.std.proofs.lemmas.List.{take_rest, length-drop}
use Rattle.std.proofs.KnownBytes.{Appends-trans, Appends-kept}
use Rattle.buffered_sink.proofs.HandLemmas.{failed_later, prints_first}
use Rattle.buffered_sink.proofs.hand.hand_on.Goals as goal

pub loop-count-preserved : goal.loop-count-preserved
loop-count-preserved g c =
    let bytes = c.args.bytes.now in
    let count = c.loop-count.count in
    let rest = take_rest bytes count in
    record {
      within =
          let bound = rw rest at c.in-Ok.ensures.bound in
          omega (arith, bound, c.loop-count-test.true, length-drop count bytes);
      bytes =
          rw (take-add count c.in-Ok.taken bytes)
          (Appends-trans _ _ _ _ _ c.loop-count.invariant.bytes (rw rest at c.in-Ok.ensures.bytes));
      same = c.in-Ok.ensures.cause.same ∙ c.loop-count.invariant.same;
      idle = λ e. let h : ⊥ = omega (arith, c.loop-count-test.true, ap length e) in absurd h;
    }

pub returns-in-Err-clause-prints : goal.returns-in-Err-clause-prints
returns-in-Err-clause-prints g c =
    prints_first c.loop-count.count _
    (Appends-kept _ _ _ _ c.loop-count.invariant.bytes c.in-Err.ensures.failed) tt
    (failed_later c.loop-count.invariant.same c.in-Err.ensures.cause)
