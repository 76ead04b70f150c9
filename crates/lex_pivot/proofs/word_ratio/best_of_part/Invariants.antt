use Rattle.std.proofs.Common.{◌≡◌, ◌≤◌, ◌+◌, ◌-◌, suc, take}
use Rattle.dictionary_laws.specs.Keys.{place_in}
use Rattle.lex_pivot.specs.Negatives.{bits_of, negative_in}
use Rattle.lex_pivot.specs.Ratios.{IsBestAt}
use Rattle.lex_pivot.proofs.word_ratio.best_of_part.Given as goal

abbrev pub invariant-places : goal.invariant-places
invariant-places l = record {
  behind : l.from ≤ l.place;
  within : l.place ≤ l.from + l.count;
  bits : l.bits ≡ bits_of (negative_in l.table.dict.now (suc (place_in l.table.dict.now.columns l.col))) l.place (l.from + l.count - l.place);
  best : IsBestAt l.table.dict.now l.table.order.now l.col (take l.place l.table.dict.now.rows) l.best;
}

abbrev pub decreases-places : goal.decreases-places
decreases-places l = l.from + l.count - l.place
