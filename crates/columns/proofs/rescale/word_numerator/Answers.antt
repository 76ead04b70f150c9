use Rattle.columns.proofs.ColumnLemmas.{inside_is}
use Rattle.columns.proofs.rescale.word_numerator.Goals as goal

pub returns : goal.returns
returns c =
    inside_is c.args.cells.now c.args.parts.now c.args.column c.requires.parts.are.own.leaving c.requires.other c.args.i
    c.word_at.result c.at_place.result c.word_at-b.result c.wide_cross.result c.word_at.ensures c.at_place.ensures
    c.word_at-b.ensures c.wide_cross.ensures
