use Rattle.std.proofs.Common.{◌≡◌, true, false, arith, ap, sym, ◌∙◌}
use Rattle.std.specs.List.{list_any}
use Rattle.poly_model.specs.Systems.{all_rows}
use Rattle.poly_model.specs.Tables.{is_point_kind}
use Rattle.hull_lift.specs.Cells.{row_kinds}
use Rattle.hull_lift.proofs.CellLemmas.{cone_with_point, cone_without_point, full_cells, full_with_added}
use Rattle.hull_lift.proofs.cone.system_of.Goals as goal

pub new-requires-clause-shape : goal.new-requires-clause-shape
new-requires-clause-shape c =
    let p = c.args.poly.now in
    record {
      full = rw (c.n-n.ensures.value, c.in_ok-cells.ensures.value, c.in_ok-linear.ensures.value)
          (full_cells p.n (all_rows p) c.in_ok-cells.ensures.width);
      few = omega (arith, c.in_ok-linear.ensures.few);
      some = c.n-n.ensures.some;
      narrow = c.n-n.ensures.narrow;
    }

pub returns-then-has_point : goal.returns-then-has_point
returns-then-has_point c =
    let p = c.args.poly.now in
    let point : list_any is_point_kind (row_kinds p.kind (all_rows p)) ≡ true =
    ap (list_any is_point_kind) (sym (c.deref.ensures.value ∙ c.in_ok-kinds.ensures)) ∙ sym c.has_point.ensures
    ∙ c.if-has_point.true in
    rw (
      c.new.ensures,
      c.kind-kind.ensures,
      c.n-n.ensures.value,
      c.in_ok-cells.ensures.value,
      c.in_ok-linear.ensures.value,
      c.in_ok-kinds.ensures,
    )
    (cone_with_point p c.in_ok-cells.ensures.width point)

pub new-requires-2-clause-shape : goal.new-requires-2-clause-shape
new-requires-2-clause-shape c =
    let p = c.args.poly.now in
    record {
      full = rw (
        c.in_ok-append_first_unit.ensures,
        c.in_ok-push.ensures.items,
        c.n-n.ensures.value,
        c.in_ok-cells.ensures.value,
        c.in_ok-linear.ensures.value,
      )
          (full_with_added p.n (all_rows p) (rw c.n-n.ensures.value at c.n-n.ensures.some) c.in_ok-cells.ensures.width);
      few = omega (arith, c.in_ok-push.ensures.len, c.in_ok-linear.ensures.few);
      some = c.n-n.ensures.some;
      narrow = c.n-n.ensures.narrow;
    }

pub returns : goal.returns
returns c =
    let p = c.args.poly.now in
    let none : list_any is_point_kind (row_kinds p.kind (all_rows p)) ≡ false =
    ap (list_any is_point_kind) (sym (c.deref.ensures.value ∙ c.in_ok-kinds.ensures)) ∙ sym c.has_point.ensures
    ∙ c.if-has_point.false in
    rw (
      c.new-2.ensures,
      c.in_ok-append_first_unit.ensures,
      c.in_ok-push.ensures.items,
      c.in_ok-push-2.ensures.items,
      c.added_kind.ensures,
      c.in_ok-cells.ensures.value,
      c.in_ok-linear.ensures.value,
      c.in_ok-kinds.ensures,
      c.kind-kind.ensures,
      c.n-n.ensures.value,
    )
    (cone_without_point p (rw c.n-n.ensures.value at c.n-n.ensures.some) c.in_ok-cells.ensures.width none)
