use Rattle.std.proofs.Common.{ℕ, sym, subst}
use Rattle.std.specs.List.{Contains}
use Rattle.dictionary.proofs.dict.Dict.keep_column.Goals as goal

pub number-requires-clause-label : goal.number-requires-clause-label
number-requires-clause-label c =
    subst (λ (k : ℕ). Contains c.args.self.now.labels k) (sym c.label-item.is)
    (c.requires.rows c.rows.label-index _ c.rows-test.true)
