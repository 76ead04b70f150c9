use Rattle.std.proofs.Common.{◌≡◌, take}
use Rattle.dictionary.specs.Views.{number, by_columns}
use Rattle.dictionary.proofs.dict.Dict.kept_cells.Given as goal

abbrev pub invariant-columns : goal.invariant-columns
invariant-columns l = l.kept.items ≡ by_columns (number l.self) l.rows (take l.j-index l.j-items)
