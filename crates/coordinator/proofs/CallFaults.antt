-- A count of faults through a call, and other words for why it stopped.
use Rattle.std.proofs.Common.{ℕ, ◌≡◌, ◌≤◌, ap, ◌∙◌, subst, Err}
use Rattle.poly_io.specs.Causes.{Rose, RisesAt}
use Rattle.run_ledger.proofs.Errors.{one_error}

-- first nothing was counted, and then an error is told by another word
pub rises_as : {T U E F : Type 0} (fault : E) (other : F) (stop : E) (told : F) (a b c : ℕ) → b ≡ a → (told ≡ other → stop ≡ fault) → (stop ≡ fault → told ≡ other) →
    RisesAt {T = T} fault b c (Err stop) → RisesAt {T = U} other a c (Err told)
rises_as {T} {U} fault other stop told a b c same back there rises = record {
  later = subst (λ (n : ℕ). n ≤ c) same rises.later;
  failed = λ e. subst (λ (n : ℕ). Rose n c) same (rises.failed (ap Err (back (one_error {T = U} told other e))));
  same = λ no. rises.same (λ f. no (ap Err (there (one_error {T = T} stop fault f)))) ∙ same;
}
