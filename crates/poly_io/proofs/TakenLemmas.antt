-- What two reads took together, as a count.
use Rattle.std.proofs.Common.{◌≤◌, ℕ, ◌+◌, List, ◌++◌, length, length-append, Option}
use Rattle.std.specs.Io.KnownBytes.{Consumes}
use Rattle.std.proofs.KnownBytes.{Consumes-trans}
use Rattle.poly_io.specs.Taken.{TakesAtMost}

-- they took at most n bytes
pub takes_both_at_most : (a b c : Option (List ℕ)) (s t : List ℕ) (n : ℕ) → Consumes a b s → Consumes b c t →
    length s + length t ≤ n → TakesAtMost a c n
takes_both_at_most a b c s t n p q le =
    record { taken = s ++ t; count = simp length-append le; bytes = Consumes-trans a b c s t p q }
