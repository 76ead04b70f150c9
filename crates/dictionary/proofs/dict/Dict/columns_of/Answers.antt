use Rattle.std.proofs.Common.{ℕ, sym, subst}
use Rattle.std.specs.List.{Contains}
use Rattle.dictionary.proofs.dict.Dict.columns_of.Goals as goal

pub column_of-requires : goal.column_of-requires
column_of-requires c =
    subst (λ (k : ℕ). Contains c.args.self.now.key k) (sym c.label-item.is)
    (c.requires c.labels.label-index _ c.labels-test.true)
