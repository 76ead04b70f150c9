use Rattle.std.proofs.Common.{subst, ap, ℕ}
use Rattle.std.specs.List.{Contains}
use Rattle.dictionary.specs.Views.{number, table_of}
use Rattle.lex_pivot.proofs.PairLemmas.{gap_inside}
use Rattle.lex_pivot.proofs.word_ties.gap_sign.Goals as goal

pub returns : goal.returns
returns c =
    let two = c.requires.pair in
    gap_inside c.args.table.now.dict.now.key (table_of c.args.table.now.dict.now) c.args.pair.now c.args.k
    (number c.args.table.now.dict.now c.args.pair.now.one.row c.column_of.result)
    (number c.args.table.now.dict.now c.args.pair.now.other.row c.column_of.result) c.cmp_in_column.result c.requires.inside
    (λ e. two.one.at.row.outside (subst (λ (k : ℕ). Contains c.args.table.now.dict.now.key k) e c.requires.inside))
    (λ e. two.other.at.row.outside (subst (λ (k : ℕ). Contains c.args.table.now.dict.now.key k) e c.requires.inside))
    (ap (number c.args.table.now.dict.now c.args.pair.now.one.row) c.column_of.ensures.value)
    (ap (number c.args.table.now.dict.now c.args.pair.now.other.row) c.column_of.ensures.value) c.cmp_in_column.ensures
