use Rattle.std.proofs.Common.{◌≡◌, ◌≤◌, ◌<◌, ◌+◌, ◌-◌, suc, get_or, ℕ}
use Rattle.dictionary_laws.specs.Keys.{place_in}
use Rattle.lex_pivot.specs.Negatives.{bits_of, negative_in}
use Rattle.lex_pivot.specs.Ratios.{IsCandidate}
use Rattle.lex_pivot.proofs.word_ratio.has_candidate.Given as goal

abbrev pub invariant-places : goal.invariant-places
invariant-places l = record {
  behind : l.from ≤ l.place;
  within : l.place ≤ l.from + l.count;
  bits : l.bits ≡ bits_of (negative_in l.table.dict.now (suc (place_in l.table.dict.now.columns l.col))) l.place (l.from + l.count - l.place);
  none : (i : ℕ) → l.from ≤ i → i < l.place → IsCandidate l.table.dict.now l.col (get_or l.table.dict.now.rows i 0) → ⊥;
}

abbrev pub decreases-places : goal.decreases-places
decreases-places l = l.from + l.count - l.place
