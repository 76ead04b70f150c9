use Rattle.std.proofs.Common.{sym}
use Rattle.dictionary.proofs.PositionLemmas.{labels_apart}
use Rattle.dictionary.proofs.dict.Dict.copy.Goals as goal

pub positions_of-requires : goal.positions_of-requires
positions_of-requires c =
    rw (c.deref.ensures.value, c.deref-2.ensures.value) (labels_apart _ c.self.invariant.2 c.self.invariant.3)

pub invariant_of-result : goal.invariant_of-result
invariant_of-result c =
    rw (
      c.in_ok-copied.ensures,
      c.in_ok-copied-2.ensures,
      c.in_ok-copied-3.ensures,
      c.in_ok-copy.ensures,
      c.in_ok-copy-2.ensures,
      c.in_ok-copy-3.ensures,
    ) (
      c.self.invariant.0,
      c.self.invariant.1,
      c.self.invariant.2,
      c.self.invariant.3,
      rw (sym c.deref.ensures.value, sym c.deref-2.ensures.value) c.in_ok-positions.ensures,
    )
