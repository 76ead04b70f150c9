use Rattle.words.specs.Limits.{AreUpTo}
use Rattle.words.proofs.limits.limit_of.Given as goal

abbrev pub invariant-words : goal.invariant-words
invariant-words l = AreUpTo l.limit l.base l.k l.words
