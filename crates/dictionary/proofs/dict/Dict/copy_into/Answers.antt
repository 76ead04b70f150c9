use Rattle.std.proofs.Common.{◌∙◌, length, ap, sym, subst}
use Rattle.std.proofs.lemmas.List.{with_items_is}
use Rattle.dictionary.specs.Views.{Dictionary, IsWhole}
use Rattle.dictionary.proofs.Counts.{same_rows, same_cells}
use Rattle.dictionary.proofs.PositionLemmas.{labels_apart}
use Rattle.dictionary.proofs.dict.Dict.copy_into.Goals as goal

-- both have as many labels and as many columns, and so as many rows
pub copy_from_slice-requires-3 : goal.copy_from_slice-requires-3
copy_from_slice-requires-3 c =
    c.to.inside.rows.ok.0 ∙ ap (λ (d : Dictionary). length d.rows) c.to.view_is
    ∙ same_rows c.args.self.now c.args.to.now (subst (λ (d : Dictionary). IsWhole d) c.self.view_is c.self.invariant.2)
    (subst (λ (d : Dictionary). IsWhole d) c.to.view_is c.to.invariant.2) c.requires.rows c.requires.columns
    ∙ ap (λ (d : Dictionary). length d.rows) (sym c.self.view_is) ∙ sym (ap length c.deref-3.ensures.value)

pub write_positions-requires-clause-apart : goal.write_positions-requires-clause-apart
write_positions-requires-clause-apart c =
    rw (c.deref-4.ensures.value, c.deref-5.ensures.value) (labels_apart _ c.self.invariant.2 c.self.invariant.3)

pub invariant_of-to : goal.invariant_of-to
invariant_of-to c =
    let view = c.self.view_is in
    let before = c.to.view_is in
    let whole = subst (λ (d : Dictionary). IsWhole d) view c.self.invariant.2 in
    let other = subst (λ (d : Dictionary). IsWhole d) before c.to.invariant.2 in
    let labels = c.copy_from_slice.ensures.items ∙ c.deref.ensures.value in
    let columns = c.copy_from_slice-2.ensures.items ∙ c.deref-2.ensures.value in
    let rows = c.copy_from_slice-3.ensures.items ∙ c.deref-3.ensures.value in
    let written = with_items_is c.to.inside.positions c.write_positions.new.positions
    (c.write_positions.ensures.room ∙ sym c.to.invariant.4.room ∙ sym c.to.inside.positions.ok.0) in
    rw (labels, columns, rows, c.copy_into.ensures, written) (
      c.to.invariant.0 ∙ ap (λ (d : Dictionary). length d.cells) before
          ∙ same_cells c.args.self.now c.args.to.now whole other c.requires.rows c.requires.columns
          ∙ sym whole.size ∙ ap (λ (d : Dictionary). length d.cells) (sym view),
      c.to.invariant.1 ∙ ap (λ (d : Dictionary). length d.rows) before
          ∙ same_rows c.args.self.now c.args.to.now whole other c.requires.rows c.requires.columns
          ∙ ap (λ (d : Dictionary). length d.rows) (sym view),
      c.self.invariant.2,
      c.self.invariant.3,
      rw (sym c.deref-4.ensures.value, sym c.deref-5.ensures.value) c.write_positions.ensures,
    )
