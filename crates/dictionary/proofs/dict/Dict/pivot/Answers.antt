use Rattle.std.proofs.Common.{◌≡◌, ℤ, List, ◌-◌, ◌≤◌, length, set, remove, arith, refl, sym, ap, subst, ◌∙◌}
use Rattle.std.proofs.lemmas.List.{length-set}
use Rattle.poly_model.specs.Keys.{with_label}
use Rattle.dictionary_laws.specs.Keys.{place_in}
use Rattle.dictionary_laws.proofs.Members.{few_below}
use Rattle.columns.specs.Cells.{AllowsExchange}
use Rattle.dictionary.specs.Views.{Dictionary, IsPivot, IsWhole}
use Rattle.dictionary.proofs.CarriedOut.{allows_exchange, column_bound, row_bound, carried_out}
use Rattle.dictionary.proofs.dict.Dict.pivot.Given.{Over}
use Rattle.dictionary.proofs.dict.Dict.pivot.Goals.{After-exchange_of-x, After-index_mut-in-Ok}
use Rattle.std.proofs.lemmas.List.{with_items_is}
use Rattle.dictionary.specs.declared.positions.Position.TheVariants.{Row, Column}
use Rattle.dictionary.specs.Positions.{label_count, AreBelow, ArePositions}
use Rattle.dictionary.proofs.PositionLemmas.{labels_apart}
use Rattle.dictionary.proofs.PositionsAfter.{positions_after}
use Rattle.dictionary.proofs.dict.Dict.pivot.Goals as goal

pub exchange_cells-requires-clause-can : goal.exchange_cells-requires-clause-can
exchange_cells-requires-clause-can g c =
    let whole = subst (λ (d : Dictionary). IsWhole d) c.self.view_is c.self.invariant.2 in
    subst (λ (v : List ℤ). AllowsExchange c.exchange_of-x.result v)
    (ap (λ (d : Dictionary). d.cells) (sym c.self.view_is))
    (rw (c.exchange_of-x.ensures) (allows_exchange c.args.self.now c.args.row c.args.col whole c.requires))

pub index_mut-requires : goal.index_mut-requires
index_mut-requires g c =
    column_bound c.args.self.now c.args.row c.args.col
    (subst (λ (d : Dictionary). IsWhole d) c.self.view_is c.self.invariant.2) c.requires c.exchange_of-x.result
    c.exchange_of-x.ensures _
    (ap (λ (d : Dictionary). length d.columns) (sym c.self.view_is) ∙ sym c.self.inside.columns.ok.0)

pub index_mut-requires-in-Ok : goal.index_mut-requires-in-Ok
index_mut-requires-in-Ok g c =
    row_bound c.args.self.now c.args.row c.args.col
    (subst (λ (d : Dictionary). IsWhole d) c.self.view_is c.self.invariant.2) c.requires c.exchange_of-x.result
    c.exchange_of-x.ensures _
    (ap (λ (d : Dictionary). length d.rows) (sym c.self.view_is) ∙ sym c.self.inside.rows.ok.0)

-- what the fields hold after the pivot
abbrev after : (g : Over) (c : After-index_mut-in-Ok g) → Dictionary
after g c = let v = c.self.inside in record {
  phase = v.phase;
  labels = v.labels.items;
  key = c.exchange_at.new.self;
  columns = set v.columns.items (c.exchange_of-x.result.column - 1) c.args.row;
  rows = set v.rows.items c.exchange_of-x.result.row c.args.col;
  denominator = c.in-Ok.denominator;
  cells = c.swap.new.x;
}

pivoted : (g : Over) (c : After-index_mut-in-Ok g) → IsPivot c.args.self.now c.args.row c.args.col (after g c) × IsWhole (after g c)
pivoted g c =
    let row = c.args.row in
    let col = c.args.col in
    let view = c.self.view_is in
    let x = c.exchange_of-x.result in
    let keys = c.labels.ensures.value ∙ ap (λ (d : Dictionary). d.key) view in
    carried_out c.args.self.now row col (subst (λ (d : Dictionary). IsWhole d) view c.self.invariant.2) c.requires x
    c.exchange_of-x.ensures c.self.inside.cells _ (ap (λ (d : Dictionary). d.cells) view) c.in-Ok.denominator
    c.in-Ok.ensures.exchanged (after g c).phase (after g c).labels (after g c).key (after g c).columns (after g c).rows c.swap.new.x
    (ap (λ (d : Dictionary). d.phase) view) (ap (λ (d : Dictionary). d.labels) view)
    (c.exchange_at.ensures
    ∙ ap (λ i. with_label row (remove c.self.inside.key i)) (c.place_of-at.ensures.value ∙ ap (λ ks. place_in ks col) keys)
    ∙ ap (λ ks. with_label row (remove ks (place_in c.args.self.now.key col))) (ap (λ (d : Dictionary). d.key) view))
    (ap (λ (d : Dictionary). set d.columns (x.column - 1) row) view)
    (ap (λ (d : Dictionary). set d.rows x.row col) view) c.swap.ensures.x_after

pub exchange_positions-requires-clause-entering : goal.exchange_positions-requires-clause-entering
exchange_positions-requires-clause-entering g c =
    let below = subst (λ (d : Dictionary). AreBelow d.labels label_count) c.self.view_is c.self.invariant.3 in
    let l = below c.args.row c.requires.label in
    let room = ap length c.deref_mut.ensures.value ∙ c.self.invariant.4.room in
    omega (arith, l, room)

-- its rows and columns are few, and so are their labels
few : (g : Over) (c : After-exchange_of-x g)
    → (length c.args.self.now.rows ≤ label_count) × (length c.args.self.now.columns ≤ label_count)
few g c =
    let d = c.args.self.now in
    let apart = labels_apart d (subst (λ (d : Dictionary). IsWhole d) c.self.view_is c.self.invariant.2)
    (subst (λ (d : Dictionary). AreBelow d.labels label_count) c.self.view_is c.self.invariant.3) in (
      few_below label_count d.rows apart.rows_once apart.rows_below,
      few_below label_count d.columns apart.columns_once apart.columns_below,
    )

pub exchange_positions-requires-clause-row : goal.exchange_positions-requires-clause-row
exchange_positions-requires-clause-row g c =
    let whole = subst (λ (d : Dictionary). IsWhole d) c.self.view_is c.self.invariant.2 in
    let within = row_bound c.args.self.now c.args.row c.args.col whole c.requires c.exchange_of-x.result
    c.exchange_of-x.ensures _ refl in
    let most = (few g (goal.at.exchange_positions-requires-clause-row g c).After-exchange_of-x).0 in
    omega (arith, within, most)

pub exchange_positions-requires-clause-column : goal.exchange_positions-requires-clause-column
exchange_positions-requires-clause-column g c =
    let whole = subst (λ (d : Dictionary). IsWhole d) c.self.view_is c.self.invariant.2 in
    let within = column_bound c.args.self.now c.args.row c.args.col whole c.requires c.exchange_of-x.result
    c.exchange_of-x.ensures _ refl in
    let most = (few g (goal.at.exchange_positions-requires-clause-column g c).After-exchange_of-x).1 in
    omega (arith, within, most)

pub invariant_of-self : goal.invariant_of-self
invariant_of-self g c =
    let all = (goal.at.invariant_of-self g c).After-index_mut-in-Ok in
    let row = c.args.row in
    let col = c.args.col in
    let v = c.self.inside in
    let x = c.exchange_of-x.result in
    let view = c.self.view_is in
    let positions = v.positions.items in
    let after = set (set positions col (Row x.row)) row (Column x.column) in
    let new : c.exchange_positions.new.positions ≡ after =
    c.exchange_positions.ensures ∙ ap (λ ps. set (set ps col (Row x.row)) row (Column x.column)) c.deref_mut.ensures.value in
    let written = with_items_is v.positions c.exchange_positions.new.positions
    (ap length new ∙ length-set (set positions col (Row x.row)) row (Column x.column)
    ∙ length-set positions col (Row x.row) ∙ sym v.positions.ok.0) in
    let are = positions_after c.args.self.now row col (subst (λ (d : Dictionary). IsWhole d) view c.self.invariant.2)
    c.requires positions
    (subst (λ (d : Dictionary). ArePositions d.rows d.columns positions) view c.self.invariant.4)
    (subst (λ (d : Dictionary). AreBelow d.labels label_count) view c.self.invariant.3) x c.exchange_of-x.ensures in (
      ap length c.swap.ensures.y_after ∙ sym c.self.invariant.0 ∙ sym c.exchange_cells.ensures.room
          ∙ ap length (sym c.swap.ensures.x_after),
      c.exchange_cells.ensures.own ∙ c.self.invariant.1 ∙ sym (length-set v.rows.items x.row col),
      (pivoted g all).1,
      c.self.invariant.3,
      rw (written, new)
          (subst (λ (d : Dictionary). ArePositions (set d.rows x.row col) (set d.columns (x.column - 1) row) after)
          (sym view) are),
    )

pub returns-in-Ok-clause-pivoted : goal.returns-in-Ok-clause-pivoted
returns-in-Ok-clause-pivoted g c = (pivoted g (goal.at.returns-in-Ok-clause-pivoted g c).After-index_mut-in-Ok).0
