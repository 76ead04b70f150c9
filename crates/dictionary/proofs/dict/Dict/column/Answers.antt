use Rattle.std.proofs.Common.{◌∙◌, length, arith, ap, subst}
use Rattle.dictionary.specs.Views.{Dictionary, IsWhole}
use Rattle.dictionary.proofs.PositionLemmas.{cell_is_number}
use Rattle.dictionary.proofs.dict.Dict.column.Goals as goal

pub returns : goal.returns
returns c =
    let now = c.args.self.now in
    let rows = c.len.ensures ∙ c.self.inside.rows.ok.0 ∙ ap (λ (d : Dictionary). length d.rows) c.self.view_is in
    record {
      height = c.column.ensures.height ∙ rows;
      numbers = λ i l.
          c.column.ensures.cells i (omega (arith, l, rows))
          ∙ rw (rows, ap (λ (d : Dictionary). d.cells) c.self.view_is)
          (cell_is_number now (subst (λ (d : Dictionary). IsWhole d) c.self.view_is c.self.invariant.2) i c.args.j l);
    }
