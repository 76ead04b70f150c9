use Rattle.std.proofs.Common.{◌≡◌, ◌%◌, ◌⊎◌, inl, inr, arith}
use Rattle.std.specs.Cmp.{ranked}
use Rattle.std.specs.declared.cmp.Ordering.TheVariants.{Less, Greater}
use Rattle.poly_num.proofs.CompareLemmas.{quotients_differ, same_quotient, turned, with_zero}
use Rattle.poly_num.proofs.compare.cmp_fractions.Goals as goal

pub returns-then-p-q : goal.returns-then-p-q
returns-then-p-q c =
    c.steps.invariant.same Less
    (quotients_differ _ _ _ _ c.steps.invariant.left c.steps.invariant.right c.if-p-q.true)

pub returns-then-q-p : goal.returns-then-q-p
returns-then-q-p c =
    c.steps.invariant.same Greater
    (quotients_differ _ _ _ _ c.steps.invariant.right c.steps.invariant.left c.if-q-p.true)

pub returns-then-r-eq0 : goal.returns-then-r-eq0
returns-then-r-eq0 c =
    let a = c.steps.a in let b = c.steps.b in let x = c.steps.c in let d = c.steps.d in
    let zero : (a % b ≡ 0) ⊎ (x % d ≡ 0) = elim c.then-r-eq0.either [ inl e ↦ inl e | inr p ↦ inr p.1 ] in
    c.steps.invariant.same c.cmp.result (same_quotient a b x d c.cmp.result (omega arith)
    (with_zero (a % b) b (x % d) d c.cmp.result c.steps.invariant.left c.steps.invariant.right zero
    (ranked _ _ _ c.cmp.ensures)))

pub steps-preserved : goal.steps-preserved
steps-preserved c =
    let a = c.steps.a in let b = c.steps.b in let x = c.steps.c in let d = c.steps.d in
    record {
      left = omega arith;
      right = omega arith;
      same = λ r h. c.steps.invariant.same r (same_quotient a b x d r (omega arith) (turned (a % b) b (x % d) d r h));
    }
