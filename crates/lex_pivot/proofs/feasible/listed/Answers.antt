use Rattle.std.proofs.Common.{sym, true≢false}
use Rattle.dictionary.specs.Views.{table_of}
use Rattle.lex_pivot.proofs.SignLemmas.{listed_elsewhere}
use Rattle.lex_pivot.proofs.feasible.listed.Goals as goal

pub returns-else-in_cobasis : goal.returns-else-in_cobasis
returns-else-in_cobasis c =
    sym (listed_elsewhere c.args.dict.now.key (table_of c.args.dict.now) c.args.row c.args.k
    (λ e. true≢false (sym (c.if-is_same.ensures.1 e))) (λ m. true≢false (sym (c.if-in_cobasis.ensures.1 m))))
