use Rattle.std.proofs.Common.{◌≡◌, ◌++◌, map, take}
use Rattle.dictionary.specs.FirstPhase.{t_entry}
use Rattle.dictionary.proofs.dict.Dict.push_t.Given as goal

abbrev pub invariant-rows : goal.invariant-rows
invariant-rows l =
    l.cells.items ≡ l.fn.cells.items ++ map (λ i. t_entry l.self i) (take l.label-index l.self.rows)
