use Rattle.std.proofs.Common.{◌≡◌, ℕ, ◌<◌, false, pos}
use Rattle.std.specs.List.{Contains}
use Rattle.poly_model.specs.Labels.{IsRow}
use Rattle.poly_model.specs.Dictionaries.{Table}
use Rattle.poly_model.specs.Systems.{row_of}
use Rattle.dictionary.specs.Views.{table_of}
use Rattle.plain_enum.proofs.side.is_zero_at_later.Given as goal

-- it is 0 at the later rows among the labels before this one, but for those that are linear
abbrev pub invariant-labels : goal.invariant-labels
invariant-labels l =
    (k : ℕ) (c : Contains l.labels k) → c.0 < l.label-index → IsRow k →
    (row_of l.sys.rows k).linear ≡ false → l.row < k → Table.entry (table_of l.dict) l.row k ≡ pos 0
