use Rattle.std.proofs.Common.{◌*ℤ◌, ℤ, subst, sym}
use Prim.Native.Nat.{◌∣◌}
use Rattle.std.specs.Prelude.{unsigned_abs}
use Rattle.columns.specs.Cells.{CellPasses}
use Rattle.columns.specs.Steps.{IsNumerator}
use Rattle.columns.proofs.OverLemmas.{leaving_is}
use Rattle.columns.proofs.PassingLemmas.{answered, quotient_passes}
use Rattle.columns.proofs.wide_column.leaving_cell.Goals as goal

pub signed_over-over-requires-clause-divides : goal.signed_over-over-requires-clause-divides
signed_over-over-requires-clause-divides c =
    subst (λ (z : ℤ). unsigned_abs c.args.parts.now.factors.now.common ∣ unsigned_abs z) (sym c.at-b.ensures)
    (c.requires.parts.factors.greatest.in_row c.args.column c.requires.within)

pub returns : goal.returns
returns c =
    let old = c.args.old.now in
    let parts = c.args.parts.now in
    let row = parts.x.now.row in
    let j = c.args.column in
    let g = c.args.scale.now.divisor in
    let r = c.requires in
    let is =
    leaving_is old parts parts.u r.parts j r.other g c.args.scale.now.factor c.at-b.result c.signed_over-over.result
    c.neg.result r.scale.whole c.at-b.ensures c.signed_over-over.ensures c.neg.ensures in
    answered c.mul.result (CellPasses parts.x.now old row j) (λ z. IsNumerator old parts j row (z *ℤ g)) c.mul.ensures
    (λ fails.
    quotient_passes old parts parts.u r.parts j row (c.neg.result *ℤ c.args.scale.now.factor) g r.parts.can.row r.within
    r.scale.positive is fails)
    (λ z e. subst (λ (n : ℤ). IsNumerator old parts j row (n *ℤ g)) (sym e) is)
