use Rattle.linearity.specs.Turns.{KeepsShape, Eliminates}
use Rattle.linearity.proofs.eliminate.enter_rows.Given as goal

-- the rows before this one have been tried
abbrev pub invariant-rows : goal.invariant-rows
invariant-rows l =
    record {
      shape : KeepsShape l.fn.dict l.dict;
      tried : Eliminates l.sys l.pass 1 l.i l.fn.dict l.dict;
    }
