use Rattle.std.proofs.Common.{refl, rules, arith, ◌<◌, ◌+◌, ◌*◌, length, ◌∙◌, ap, ℤ, ◌*ℤ◌, ◌≡◌, subst, ℕ}
use Rattle.poly_num.proofs.Ring.{mul_assoc}
use Rattle.columns.specs.Steps.{IsColumnWritten}
use Rattle.columns.proofs.ColumnLemmas.{written_more, kept_more, own_is}
use Rattle.columns.proofs.column.own_column.Goals as goal

pub cells-preserved : goal.cells-preserved
cells-preserved c =
    let parts = c.args.parts.now in
    let x = parts.x.now in
    let j = x.column in
    let lt : j * x.height + c.cells.i < length c.cells.new = search rules in
    let here : c.cells.i < x.height = search rules in
    let own = c.own_number.result in
    let f = c.args.factor in
    let q = c.in-Some.q in
    record {
      written = λ cells g e.
          written_more cells parts j g c.cells.i c.cells.new q (own *ℤ x.denominator) lt
          (ap (λ (z : ℤ). z *ℤ g) c.in-Some.ensures ∙ mul_assoc own f g ∙ ap (λ (z : ℤ). own *ℤ z) e)
          (own_is cells parts j refl c.cells.i own _ c.own_number.ensures.other c.own_number.ensures.here refl)
          (c.cells.invariant.written cells g e);
      kept = kept_more _ c.args.new.now c.cells.new _ q (omega arith) c.cells.invariant.kept;
    }

pub returns-clause-written : goal.returns-clause-written
returns-clause-written c _ cells g e =
    let parts = c.args.parts.now in
    let l : c.cells.i ≡ parts.x.now.height = omega arith in
    subst (λ (n : ℕ). IsColumnWritten cells parts parts.x.now.column n g c.cells.new) l
    (c.cells.invariant.written cells g e)
