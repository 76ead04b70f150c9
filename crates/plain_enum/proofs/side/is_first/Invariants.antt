use Rattle.plain_enum.specs.Columns.{IsFirst}
use Rattle.plain_enum.proofs.side.is_first.Given as goal

-- so it is of the rows up to row i
abbrev pub invariant-rows : goal.invariant-rows
invariant-rows l = IsFirst l.sys.rows l.dict l.i l.fn.col
