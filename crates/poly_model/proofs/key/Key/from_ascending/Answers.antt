use Rattle.std.proofs.Common.{arith}
use Rattle.poly_model.proofs.KeyLemmas.{ascending_from_neighbours, neighbours_ascend}
use Rattle.poly_model.proofs.key.Key.from_ascending.Goals as goal
use Rattle.poly_model.proofs.key.Key.from_ascending.Goals.{else-labels-le-MOST_LABELS-via-then-labels-le-MOST_LABELS+else-ascends, else-labels-le-MOST_LABELS-via-else-labels-le-MOST_LABELS}

pub of-requires : goal.of-requires
of-requires c = record { room = c.if-labels-le-MOST_LABELS.true; ascending = ascending_from_neighbours _ (c.ascends.ensures.0 c.if-ascends.true) }

pub returns-else-labels-le-MOST_LABELS : goal.returns-else-labels-le-MOST_LABELS
returns-else-labels-le-MOST_LABELS c h =
    elim c.else-labels-le-MOST_LABELS.branch [
      | else-labels-le-MOST_LABELS-via-then-labels-le-MOST_LABELS+else-ascends w ↦ (let e = w.ascends.ensures.1 (neighbours_ascend _ h.ascending) in cc)
      | else-labels-le-MOST_LABELS-via-else-labels-le-MOST_LABELS w ↦ omega (arith, h.room)
    ]
