use Rattle.std.proofs.Common.{◌≡◌, ◌+◌, ◌++◌, pos, length, arith, ap, sym, subst, ◌∙◌}
use Rattle.std.specs.List.{range_with_len}
use Rattle.std.proofs.lemmas.Result.{IfOk-weaker}
use Rattle.dictionary_laws.specs.Coordinates.{coordinate_key}
use Rattle.dictionary.specs.Views.{Dictionary, IsWhole, by_columns}
use Rattle.dictionary.specs.New.{first_label, first_width, first_number, row_count, has_constants, IsCoordinateDictionary}
use Rattle.dictionary.specs.Positions.{label_count, AreBelow}
use Rattle.dictionary.proofs.Beginnings.{width_of_columns, first_below}
use Rattle.dictionary.proofs.BeginSpaces.{same_view, new_whole, new_is}
use Rattle.dictionary.proofs.dict.Dict.new.Goals as goal
use Rattle.dictionary.proofs.dict.Dict.new.Goals.{After-len, In_ok-cells}

-- the columns of the coordinates, with that of the constants
width : (c : After-len) → c.len.result + 1 ≡ first_width c.has_constants-constants.result c.args.sys.now.n
width c =
    let b = c.has_constants-constants.result in
    let n = c.args.sys.now.n in
    let columns = c.in_ok-columns.ensures.value ∙ ap (λ m. coordinate_key (first_label b) m) c.n.ensures.value in
    let count = c.len.ensures ∙ c.in_ok-columns.columns.ok.0 ∙ ap length columns in
    let whole = width_of_columns b n c.keeps_limits.ensures.some in
    omega arith

pub all_cells-requires-clause-width : goal.all_cells-requires-clause-width
all_cells-requires-clause-width c = width (goal.at.all_cells-requires-clause-width c).After-len

-- the dictionary that is made of the fields
abbrev fields : (c : In_ok-cells) → Dictionary
fields c = record {
  phase = c.args.phase;
  labels = c.in_ok-labels.labels.items;
  key = c.key_of-key.result;
  columns = c.in_ok-columns.columns.items;
  rows = c.in_ok-rows.rows.items;
  denominator = pos 1;
  cells = c.in_ok-cells.cells.items;
}

made : (c : In_ok-cells) → c.len.result + 1 ≡ first_width c.has_constants-constants.result c.args.sys.now.n →
    IsWhole (fields c) × IsCoordinateDictionary c.args.sys.now c.args.phase (fields c) × AreBelow (fields c).labels label_count
made c wide =
    let sys = c.args.sys.now in
    let phase = c.args.phase in
    let limits = c.keeps_limits.ensures in
    let b = c.has_constants-constants.ensures ∙ ap (λ k. has_constants phase k) c.kind.ensures in
    let m = c.row_count-count.result in
    let em = c.row_count-count.ensures.value ∙ ap (λ t. row_count t (length sys.rows)) b in
    let few = c.row_count-count.ensures.few in
    let columns = c.in_ok-columns.ensures.value
    ∙ ap (λ t. coordinate_key (first_label t) c.n.result) b
    ∙ ap (λ n. coordinate_key (first_label (has_constants phase sys.kind)) n) c.n.ensures.value in
    let labels = c.in_ok-labels.ensures ∙ ap (λ ks. c.in_ok-rows.rows.items ++ ks) c.deref.ensures.value in
    let key = c.key_of-key.ensures ∙ c.deref-2.ensures.value in
    let cells = c.in_ok-cells.ensures
    ∙ ap (λ w. by_columns (first_number c.has_constants-constants.result sys.rows) (range_with_len 1 m) (range_with_len 0 w)) wide
    ∙ ap (λ t. by_columns (first_number t sys.rows) (range_with_len 1 m) (range_with_len 0 (first_width t sys.n))) b in
    let same = same_view phase sys.rows (has_constants phase sys.kind) sys.n m limits.some limits.narrow few
    c.in_ok-labels.labels.items c.key_of-key.result c.in_ok-columns.columns.items c.in_ok-rows.rows.items
    c.in_ok-cells.cells.items columns c.in_ok-rows.ensures labels key cells in (
      subst (λ (d : Dictionary). IsWhole d) same (new_whole sys phase c.requires m em few limits.some limits.narrow),
      subst (λ (d : Dictionary). IsCoordinateDictionary sys phase d) same
          (new_is sys phase c.requires m em few limits.some limits.narrow),
      rw (labels ∙ ap (λ ks. ks ++ c.in_ok-columns.columns.items) c.in_ok-rows.ensures
          ∙ ap (λ ks. range_with_len 1 m ++ ks) columns)
          (first_below (has_constants phase sys.kind) sys.n m limits.some limits.narrow few),
    )

pub arranged-requires-clause-whole : goal.arranged-requires-clause-whole
arranged-requires-clause-whole c =
    (made (goal.at.arranged-requires-clause-whole c).In_ok-cells
    (width (goal.at.arranged-requires-clause-whole c).After-len)).0

pub arranged-requires-clause-below : goal.arranged-requires-clause-below
arranged-requires-clause-below c =
    (made (goal.at.arranged-requires-clause-below c).In_ok-cells
    (width (goal.at.arranged-requires-clause-below c).After-len)).2

pub returns : goal.returns
returns c =
    let all = (goal.at.returns c).In_ok-cells in
    IfOk-weaker c.arranged.result _ _
    (λ d e.
    subst (λ (n : Dictionary). IsCoordinateDictionary c.args.sys.now c.args.phase n) (sym e)
    (made all (width (goal.at.returns c).After-len)).1)
    c.arranged.ensures
