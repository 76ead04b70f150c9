use Rattle.std.proofs.Common.{◌≡◌, sym, subst, get_or, List, ℕ}
use Rattle.std.specs.List.{Contains}
use Rattle.std.proofs.lemmas.List.Elements.{Contains-get_or}
use Rattle.lex_pivot.proofs.EarlierLemmas.{read_at}
use Rattle.lex_pivot.proofs.rows.label_of_column.Goals.{After-index-columns-j}
use Rattle.lex_pivot.proofs.rows.label_of_column.Goals as goal

label_is : (c : After-index-columns-j) → c.index-columns-j.result ≡ get_or c.args.dict.now.columns c.args.j 0
label_is c =
    read_at c.columns.result.now c.args.dict.now.columns c.columns.ensures.value c.args.j c.index-columns-j.result c.requires
    c.index-columns-j.is

in_key : (c : After-index-columns-j) → Contains c.args.dict.now.key c.index-columns-j.result
in_key c =
    c.columns.ensures.key.back c.index-columns-j.result
    (subst (λ (ks : List ℕ). Contains ks c.index-columns-j.result) (sym c.columns.ensures.value)
    (subst (Contains c.args.dict.now.columns) (sym (label_is c)) (Contains-get_or c.args.dict.now.columns c.args.j 0 c.requires)))

pub returns-clause-value : goal.returns-clause-value
returns-clause-value c = label_is c

pub returns-clause-key : goal.returns-clause-key
returns-clause-key c = in_key c

pub returns-clause-label : goal.returns-clause-label
returns-clause-label c =
    c.cobasis-cobasis.ensures.labels c.index-columns-j.result
    (subst (λ (ks : List ℕ). Contains ks c.index-columns-j.result) (sym c.cobasis-cobasis.ensures.value) (in_key c))
