use Rattle.std.proofs.Common.{◌∙◌}
use Rattle.dictionary.specs.Views.{number}
use Rattle.lex_pivot.proofs.SignLemmas.{cross_sign}
use Rattle.lex_pivot.proofs.word_ties.constants_sign.Goals as goal

pub returns : goal.returns
returns c =
    c.cmp_in_column.ensures
    ∙ cross_sign c.args.pair.now.other.over c.args.pair.now.one.over (number c.args.table.now.dict.now c.args.pair.now.one.row 0)
    (number c.args.table.now.dict.now c.args.pair.now.other.row 0)
