-- The first gate.
use Rattle.std.proofs.Common.{◌≡◌, ◌<◌, ℕ, List, [], ◌∷◌, length, get_or, take, refl, sym, ◌∙◌, ap, arith}
use Rattle.job_ledger.specs.Records.{HasNoRun, IsOpen, Records}

-- it is open where the first byte is
pub open_first : (f l : List ℕ) → l ≡ take 1 f → IsOpen l → IsOpen f
open_first [] l is (rest, opens) = absurd (omega (arith, ap length (sym opens ∙ is)))
open_first (b ∷ f) l is (rest, opens) = (f, ap (λ (g : ℕ). g ∷ f) (ap (λ (k : List ℕ). get_or k 0 0) (sym is ∙ opens)))

pub shut_first : (f l : List ℕ) → l ≡ take 1 f → HasNoRun l → HasNoRun f
shut_first f l is none (rest, opens) = none ([], is ∙ ap (take 1) opens)

-- a file that is not empty and has no run has a closed first gate
pub no_record : (f : List ℕ) → HasNoRun f → 0 < length f → Records [] f
no_record [] none some = absurd (omega (arith, some))
no_record (b ∷ f) none some = record { short = λ i d lt. absurd (omega (arith, lt)); gate = b; rest = f; split = refl; closed = λ is. none (f, ap (λ (g : ℕ). g ∷ f) is) }

-- and the other way round
pub no_run : (f : List ℕ) → Records [] f → HasNoRun f
no_run f r (rest, opens) = r.closed (ap (λ (k : List ℕ). get_or k 0 0) (sym r.split ∙ opens))
