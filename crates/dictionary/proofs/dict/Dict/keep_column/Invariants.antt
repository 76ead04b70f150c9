use Rattle.std.proofs.Common.{◌≡◌, ◌++◌, map, take}
use Rattle.dictionary.specs.Views.{number}
use Rattle.dictionary.proofs.dict.Dict.keep_column.Given as goal

abbrev pub invariant-rows : goal.invariant-rows
invariant-rows l =
    l.kept.items ≡ l.fn.kept.items ++ map (λ k. number l.self k l.column) (take l.label-index l.rows)
