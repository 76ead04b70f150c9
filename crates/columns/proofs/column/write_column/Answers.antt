use Rattle.std.proofs.Common.{◌≡◌, ◌∙◌, ap, sym, subst, ℕ, ℤ, ◌*ℤ◌}
use Rattle.poly_num.proofs.Ring.{one_mul}
use Rattle.columns.specs.Steps.{IsColumnWritten}
use Rattle.columns.proofs.column.write_column.Goals as goal

pub returns-then-is_one-clause-written : goal.returns-then-is_one-clause-written
returns-then-is_one-clause-written c =
    let cells = c.args.cells.now in
    let parts = c.args.parts.now in
    let x = parts.x.now in
    let g = c.args.scale.now.divisor in
    let new = c.same_own_column.new.new in
    let all : x.denominator ≡ g =
    sym c.requires.scale.whole ∙ ap (λ (z : ℤ). z *ℤ g) (c.is_one.ensures c.if-is_one.true) ∙ one_mul g in
    subst (λ (j : ℕ). IsColumnWritten cells parts j x.height g new) (sym c.if-column-parts.false)
    (subst (λ (z : ℤ). IsColumnWritten cells parts x.column x.height z new) all
    (c.same_own_column.ensures.written cells))
