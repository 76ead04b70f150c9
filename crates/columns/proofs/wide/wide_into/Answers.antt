use Rattle.std.proofs.Common.{◌≡◌, subst, sym, ℤ, ℕ, pos, ◌∙◌, arith}
use Rattle.poly_num.proofs.Ring.{one_mul}
use Rattle.columns.specs.Cells.{IsTableAfter}
use Rattle.columns.specs.Steps.{IsOver, IsScale, factor_of}
use Rattle.columns.proofs.OverLemmas.{over_start, over_column}
use Rattle.columns.proofs.LeastCells.{table_after}
use Rattle.columns.proofs.PassingLemmas.{denominator_passes}
use Rattle.columns.proofs.wide.wide_into.Goals as goal

pub columns-init : goal.columns-init
columns-init c =
    let old = c.args.old.now in
    let new = c.args.new.now in
    let parts = c.args.parts.now in
    let x = parts.x.now in
    let can = c.requires.parts.can in
    let d = x.denominator in
    record {
      over =
          subst (λ (g : ℤ). IsOver x old (factor_of parts) 0 g new) (sym c.new.ensures)
          (over_start x old (factor_of parts) new (c.requires.room ∙ sym can.size) can.denominator);
      scale =
          subst (λ (g : ℤ). IsScale x g (pos 1)) (sym c.new.ensures)
          (record { positive = can.denominator; whole = one_mul d });
    }

pub columns-preserved : goal.columns-preserved
columns-preserved c =
    let parts = c.args.parts.now in
    record {
      over =
          over_column c.args.old.now parts parts.u c.requires.parts c.columns.j c.columns.scale.divisor
          c.wide_column.new.scale.divisor c.columns.new c.wide_column.new.new c.in_default.ensures.done
          c.columns.invariant.over;
      scale = c.in_default.ensures.scale;
    }

pub returns-in-Some-clause-exchanged : goal.returns-in-Some-clause-exchanged
returns-in-Some-clause-exchanged c =
    let parts = c.args.parts.now in
    let x = parts.x.now in
    let old = c.args.old.now in
    let u = c.columns.invariant in
    let e : c.columns.j ≡ x.width = omega arith in
    subst (λ (d : ℤ). IsTableAfter x old d c.columns.new) (sym c.in-Some.ensures.1)
    (table_after old c.columns.new parts parts.u c.columns.scale.divisor c.columns.scale.factor c.requires.parts
    u.scale.whole (subst (λ (n : ℕ). IsOver x old (factor_of parts) n c.columns.scale.divisor c.columns.new) e u.over))

pub returns-in-None-clause-passes : goal.returns-in-None-clause-passes
returns-in-None-clause-passes c =
    let u = c.columns.invariant in
    let parts = c.args.parts.now in
    denominator_passes c.args.old.now parts parts.u c.requires.parts c.columns.scale.divisor c.columns.scale.factor
    u.scale.positive u.scale.whole c.in-None.ensures
