use Rattle.std.proofs.Common.{ℕ, ℤ, List, ◌-◌, ◌*◌, length, set, remove, sym, ap, subst, ◌∙◌}
use Rattle.std.proofs.lemmas.List.{length-set}
use Rattle.poly_model.specs.Keys.{with_label}
use Rattle.dictionary_laws.specs.Keys.{place_in}
use Rattle.columns.specs.declared.exchange.Exchange.{Exchange}
use Rattle.columns.specs.Cells.{AllowsExchange}
use Rattle.dictionary.specs.Views.{Dictionary, IsPivot, IsWhole, overflow_of}
use Rattle.dictionary.proofs.CarriedOut.{allows_exchange, column_bound, row_bound, carried_out}
use Rattle.dictionary.proofs.Counts.{same_rows, same_cells}
use Rattle.std.proofs.lemmas.List.{with_items_is}
use Rattle.dictionary.specs.Positions.{label_count, AreBelow, ArePositions}
use Rattle.dictionary.proofs.PositionLemmas.{labels_apart}
use Rattle.dictionary.proofs.dict.Dict.pivot_into.Given.{Over}
use Rattle.dictionary.proofs.dict.Dict.pivot_into.Goals.{After-to, After-index_mut-in-Ok}
use Rattle.dictionary.proofs.dict.Dict.pivot_into.Goals as goal

whole : (g : Over) (c : After-to g) → IsWhole c.args.self.now
whole g c = subst (λ (d : Dictionary). IsWhole d) c.self.view_is c.self.invariant.2

other : (g : Over) (c : After-to g) → IsWhole c.args.to.now
other g c = subst (λ (d : Dictionary). IsWhole d) c.to.view_is c.to.invariant.2

pub exchange_cells-requires-clause-can : goal.exchange_cells-requires-clause-can
exchange_cells-requires-clause-can g c =
    let all = (goal.at.exchange_cells-requires-clause-can g c).After-to in
    subst (λ (v : List ℤ). AllowsExchange c.exchange_of-x.result v)
    (ap (λ (d : Dictionary). d.cells) (sym c.self.view_is))
    (rw (c.exchange_of-x.ensures)
    (allows_exchange c.args.self.now c.args.row c.args.col (whole g all) c.requires.can))

pub exchange_cells-requires-clause-room : goal.exchange_cells-requires-clause-room
exchange_cells-requires-clause-room g c =
    let all = (goal.at.exchange_cells-requires-clause-room g c).After-to in
    c.to.invariant.0 ∙ ap (λ (d : Dictionary). length d.cells) c.to.view_is
    ∙ same_cells c.args.self.now c.args.to.now (whole g all) (other g all) c.requires.rows c.requires.columns
    ∙ ap (λ (x : Exchange). x.width * x.height) (sym c.exchange_of-x.ensures)

pub exchange_cells-requires-clause-own : goal.exchange_cells-requires-clause-own
exchange_cells-requires-clause-own g c =
    let all = (goal.at.exchange_cells-requires-clause-own g c).After-to in
    c.to.invariant.1 ∙ ap (λ (d : Dictionary). length d.rows) c.to.view_is
    ∙ same_rows c.args.self.now c.args.to.now (whole g all) (other g all) c.requires.rows c.requires.columns
    ∙ ap (λ (x : Exchange). x.height) (sym c.exchange_of-x.ensures)

pub index_mut-requires : goal.index_mut-requires
index_mut-requires g c =
    let all = (goal.at.index_mut-requires g c).After-to in
    column_bound c.args.self.now c.args.row c.args.col (whole g all) c.requires.can c.exchange_of-x.result
    c.exchange_of-x.ensures _
    (ap (λ (d : Dictionary). length d.columns) (sym c.self.view_is)
    ∙ ap length (sym (c.copy_from_slice-in-Ok.ensures.items ∙ c.deref-in-Ok.ensures.value))
    ∙ sym c.copy_from_slice-in-Ok.new.self.ok.0)

pub index_mut-requires-in-Ok : goal.index_mut-requires-in-Ok
index_mut-requires-in-Ok g c =
    let all = (goal.at.index_mut-requires-in-Ok g c).After-to in
    row_bound c.args.self.now c.args.row c.args.col (whole g all) c.requires.can c.exchange_of-x.result
    c.exchange_of-x.ensures _
    (ap (λ (d : Dictionary). length d.rows) (sym c.self.view_is)
    ∙ ap length (sym (c.copy_from_slice-in-Ok-2.ensures.items ∙ c.deref-in-Ok-2.ensures.value))
    ∙ sym c.copy_from_slice-in-Ok-2.new.self.ok.0)

-- what the fields of the other one hold
abbrev after : (g : Over) (c : After-index_mut-in-Ok g) → Dictionary
after g c = record {
  phase = c.self.inside.phase;
  labels = c.copy_from_slice.new.self.items;
  key = c.exchange_at.new.self;
  columns = set c.copy_from_slice-in-Ok.new.self.items (c.exchange_of-x.result.column - 1) c.args.row;
  rows = set c.copy_from_slice-in-Ok-2.new.self.items c.exchange_of-x.result.row c.args.col;
  denominator = c.in-Ok.denominator;
  cells = c.swap.new.x;
}

pivoted : (g : Over) (c : After-index_mut-in-Ok g) → IsPivot c.args.self.now c.args.row c.args.col (after g c) × IsWhole (after g c)
pivoted g c =
    let view = c.self.view_is in
    let x = c.exchange_of-x.result in
    let keys = ap (λ (d : Dictionary). d.key) view in
    let place = c.place_of-at.ensures.value ∙ ap (λ ks. place_in ks c.args.col) (c.labels.ensures.value ∙ keys) in
    carried_out c.args.self.now c.args.row c.args.col (subst (λ (d : Dictionary). IsWhole d) view c.self.invariant.2)
    c.requires.can x c.exchange_of-x.ensures c.self.inside.cells _ (ap (λ (d : Dictionary). d.cells) view)
    c.in-Ok.denominator c.in-Ok.ensures.exchanged c.self.inside.phase (after g c).labels c.exchange_at.new.self
    (after g c).columns (after g c).rows (after g c).cells (ap (λ (d : Dictionary). d.phase) view)
    (c.copy_from_slice.ensures.items ∙ c.deref.ensures.value ∙ ap (λ (d : Dictionary). d.labels) view)
    (c.exchange_at.ensures ∙ ap (λ i. with_label c.args.row (remove c.self.inside.key i)) place
    ∙ ap (λ ks. with_label c.args.row (remove ks (place_in c.args.self.now.key c.args.col))) keys)
    (ap (λ ks. set ks (x.column - 1) c.args.row)
    (c.copy_from_slice-in-Ok.ensures.items ∙ c.deref-in-Ok.ensures.value ∙ ap (λ (d : Dictionary). d.columns) view))
    (ap (λ ks. set ks x.row c.args.col)
    (c.copy_from_slice-in-Ok-2.ensures.items ∙ c.deref-in-Ok-2.ensures.value ∙ ap (λ (d : Dictionary). d.rows) view))
    c.swap.ensures.x_after

below : (g : Over) (c : After-index_mut-in-Ok g) → AreBelow (after g c).labels label_count
below g c = rw (c.copy_from_slice.ensures.items, c.deref.ensures.value) c.self.invariant.3

pub write_positions-requires-clause-apart : goal.write_positions-requires-clause-apart
write_positions-requires-clause-apart g c =
    let all = (goal.at.write_positions-requires-clause-apart g c).After-index_mut-in-Ok in
    rw (c.deref-in-Ok-3.ensures.value, c.deref-in-Ok-4.ensures.value)
    (labels_apart (after g all) (pivoted g all).1 (below g all))

pub invariant_of-to : goal.invariant_of-to
invariant_of-to g c =
    let all = (goal.at.invariant_of-to g c).After-index_mut-in-Ok in
    let to = (goal.at.invariant_of-to g c).After-to in
    let rows = c.copy_from_slice-in-Ok-2.new.self.items in
    let written = with_items_is c.to.inside.positions c.write_positions.new.positions
    (c.write_positions.ensures.room ∙ sym c.to.invariant.4.room ∙ sym c.to.inside.positions.ok.0) in (
      ap length c.swap.ensures.y_after ∙ sym c.to.invariant.0 ∙ sym c.exchange_cells.ensures.room
          ∙ ap length (sym c.swap.ensures.x_after),
      c.exchange_cells.ensures.own ∙ c.to.invariant.1 ∙ ap (λ (d : Dictionary). length d.rows) c.to.view_is
          ∙ same_rows c.args.self.now c.args.to.now (whole g to) (other g to) c.requires.rows c.requires.columns
          ∙ ap (λ (d : Dictionary). length d.rows) (sym c.self.view_is)
          ∙ ap length (sym (c.copy_from_slice-in-Ok-2.ensures.items ∙ c.deref-in-Ok-2.ensures.value))
          ∙ sym (length-set rows c.exchange_of-x.result.row c.args.col),
      (pivoted g all).1,
      below g all,
      rw (written)
          (subst (λ (ks : List ℕ). ArePositions ks (after g all).columns c.write_positions.new.positions)
          c.deref-in-Ok-3.ensures.value
          (subst (λ (ks : List ℕ). ArePositions c.deref-in-Ok-3.result.now ks c.write_positions.new.positions)
          c.deref-in-Ok-4.ensures.value c.write_positions.ensures)),
    )

pub returns-in-Ok-clause-pivoted : goal.returns-in-Ok-clause-pivoted
returns-in-Ok-clause-pivoted g c = (pivoted g (goal.at.returns-in-Ok-clause-pivoted g c).After-index_mut-in-Ok).0

pub returns-in-Err-clause-complete : goal.returns-in-Err-clause-complete
returns-in-Err-clause-complete g c none = absurd (none (overflow_of c.args.self.now c.products_at.result) c.products_at.ensures)
