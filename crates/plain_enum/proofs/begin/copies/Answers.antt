use Rattle.std.proofs.Common.{[], ◌∷◌, length, length-append, sym, ap, ◌∙◌, subst, arith}
use Rattle.std.specs.List.{All}
use Rattle.plain_enum.specs.Listed.{HasShapeOf}
use Rattle.plain_enum.proofs.BeginAt.{copied_more}
use Rattle.plain_enum.proofs.begin.copies.Goals as goal

pub copies-preserved : goal.copies-preserved
copies-preserved c = record {
  count =
      ap length c.in_ok-push.ensures.items
      ∙ omega (arith, length-append c.copies.made.items (c.in_ok-copy.field-0 ∷ []), c.copies.invariant.count);
  shapes =
      subst (All (HasShapeOf c.args.dict.now)) (sym c.in_ok-push.ensures.items)
      (copied_more c.args.dict.now c.in_ok-copy.field-0 c.copies.made.items c.in_ok-copy.ensures
      c.copies.invariant.shapes);
}
