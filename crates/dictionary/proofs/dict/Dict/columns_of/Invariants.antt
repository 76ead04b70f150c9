use Rattle.std.proofs.Common.{◌≡◌, ◌<◌, suc, length, take}
use Rattle.std.specs.List.{All}
use Rattle.dictionary.specs.MainPhase.{kept_columns}
use Rattle.dictionary.proofs.dict.Dict.columns_of.Given as goal

abbrev pub invariant-labels : goal.invariant-labels
invariant-labels l = record {
  value : l.columns.items ≡ kept_columns l.self.columns (take l.label-index l.labels);
  within : All (λ j. j < suc (length l.self.columns)) l.columns.items;
}
