use Rattle.std.proofs.Common.{◌≡◌, ◌+ℤ◌, subst, sym, ℤ, ℕ, ◌∙◌, arith, mul_comm}
use Rattle.poly_num.proofs.Ring.{one_mul}
use Rattle.columns.specs.Cells.{IsTableAfter}
use Rattle.columns.specs.Sizes.{AreOf}
use Rattle.columns.specs.Steps.{IsOver, factor_of}
use Rattle.columns.proofs.OverLemmas.{over_start, over_column}
use Rattle.columns.proofs.LeastCells.{table_after}
use Rattle.columns.proofs.into.exchange_into.Goals as goal

pub columns-init : goal.columns-init
columns-init c =
    let parts = c.args.parts.now in
    let x = parts.x.now in
    let can = c.requires.parts.are.can in
    let old = c.args.cells.now in
    let same : c.new-divisor.result ≡ x.denominator = c.new-divisor.ensures ∙ c.in_ok-d.ensures.1 in
    record {
      over =
          subst (λ (g : ℤ). IsOver x old (factor_of parts) 0 g c.args.new.now) (sym same)
          (over_start x old (factor_of parts) c.args.new.now (c.requires.room ∙ sym can.size) can.denominator);
      scale = record { positive = rw same can.denominator; whole = rw same (one_mul x.denominator) };
      size = λ k l. absurd (omega arith);
    }

pub columns-preserved : goal.columns-preserved
columns-preserved c =
    let parts = c.args.parts.now in
    let t = c.if-not-exchange_column.false in
    let u = c.columns.invariant in
    record {
      over =
          over_column c.args.cells.now parts (parts.p +ℤ parts.u) c.requires.parts.are c.columns.j
          c.columns.scale.divisor c.exchange_column.new.scale.divisor c.columns.new c.exchange_column.new.new
          (c.exchange_column.ensures.done t) u.over;
      scale = c.exchange_column.ensures.scale t;
      size =
          subst (λ (n : ℕ). AreOf c.exchange_column.new.scale.size n c.exchange_column.new.new)
          (omega (arith, mul_comm parts.x.now.height (c.columns.j))) (c.exchange_column.ensures.size t u.size);
    }

pub returns-clause-written : goal.returns-clause-written
returns-clause-written c =
    let parts = c.args.parts.now in
    let x = parts.x.now in
    let old = c.args.cells.now in
    let u = c.columns.invariant in
    let e : c.columns.j ≡ x.width = omega arith in
    subst (λ (d : ℤ). IsTableAfter x old d c.columns.new) (sym c.in_ok-denominator.ensures)
    (table_after old c.columns.new parts (parts.p +ℤ parts.u) c.columns.scale.divisor c.columns.scale.factor
    c.requires.parts.are u.scale.whole
    (subst (λ (n : ℕ). IsOver x old (factor_of parts) n c.columns.scale.divisor c.columns.new) e u.over))
