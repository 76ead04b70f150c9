use Rattle.dictionary.specs.Arrangements.{arranged}
use Rattle.dictionary.proofs.PositionLemmas.{labels_apart}
use Rattle.dictionary.proofs.dict.Dict.arranged.Goals as goal

pub positions_of-requires : goal.positions_of-requires
positions_of-requires c =
    rw (c.deref.ensures.value, c.deref-2.ensures.value)
    (labels_apart (arranged c.args.phase c.args.arrangement c.args.denominator c.args.cells.items) c.requires.whole
    c.requires.below)
