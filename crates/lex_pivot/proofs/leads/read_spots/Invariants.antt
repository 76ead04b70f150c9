use Rattle.std.proofs.Common.{◌≡◌, ◌<◌, ℕ, length, get_or, None}
use Rattle.lex_pivot.specs.Leads.{IsSpot}
use Rattle.lex_pivot.proofs.leads.read_spots.Given as goal

abbrev pub invariant-labels : goal.invariant-labels
invariant-labels l = record {
  room : length l.spots ≡ length l.fn.spots;
  each : (n : ℕ) → n < l.n → IsSpot l.dict (get_or l.labels n 0) (get_or l.spots n None);
}
