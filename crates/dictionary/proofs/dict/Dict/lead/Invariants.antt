use Rattle.dictionary.specs.Positions.{AreZeroFrom}
use Rattle.dictionary.proofs.dict.Dict.lead.Given as goal

-- the numbers from this place on are 0
abbrev pub invariant-places : goal.invariant-places
invariant-places l = AreZeroFrom l.self l.order l.j l.n
