use Rattle.std.proofs.Common.{◌≡◌, subst, sym, arith, ℕ, ℤ}
use Rattle.columns.specs.Steps.{IsLeftOfColumn, DividesColumn}
use Rattle.columns.proofs.ColumnLemmas.{left_start, left_more, divides_more}
use Rattle.columns.proofs.wide_column.left_of_column.Goals as goal

pub rows-init : goal.rows-init
rows-init c =
    let old = c.args.old.now in
    let parts = c.args.parts.now in
    let j = c.args.column in
    let g = c.args.divisor.now in
    record {
      left =
          subst (λ (h : ℤ). IsLeftOfColumn old parts j 0 g h) (sym c.copied-common.ensures)
          (left_start old parts j g c.number-g.ensures.positive);
      divides = λ i l. absurd (omega arith);
    }

pub rows-preserved : goal.rows-preserved
rows-preserved c =
    let old = c.args.old.now in
    let parts = c.args.parts.now in
    let j = c.args.column in
    let u = c.rows.invariant in
    record {
      left = left_more old parts j c.args.divisor.now c.rows.i c.rows.common c.in-Some.h c.in-Some.ensures u.left;
      divides = divides_more old parts j c.rows.i c.rows.common c.in-Some.h c.in-Some.ensures u.divides;
    }

pub returns-clause-left : goal.returns-clause-left
returns-clause-left c =
    let parts = c.args.parts.now in
    let l : c.rows.i ≡ parts.x.now.height = omega arith in
    subst (λ (n : ℕ). IsLeftOfColumn c.args.old.now parts c.args.column n c.args.divisor.now c.rows.common) l
    c.rows.invariant.left

pub returns-clause-divides : goal.returns-clause-divides
returns-clause-divides c =
    let parts = c.args.parts.now in
    let l : c.rows.i ≡ parts.x.now.height = omega arith in
    subst (λ (n : ℕ). DividesColumn c.args.old.now parts c.args.column n c.rows.common) l c.rows.invariant.divides
