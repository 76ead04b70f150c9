-- Quiet calls one after the other.
use Rattle.std.proofs.Common.{◌≡◌, ◌∙◌, ℕ, List, Option, refl}
use Rattle.disk_core.specs.Images.{Images, NothingNew}
use Rattle.disk_core.specs.Moments.{Elapses, IsQuiet, LeavesOnly}
use Rattle.disk_core.proofs.Moments.{goes_on, joined, started}

module _ {D : Type 0} (seen : D → Option (List ℕ)) (images : D → Images) (moment : D → ℕ) (since : D → ℕ → Images) (only_now : (d : D) (c : List ℕ) → since d (moment d) c → images d c) where
  -- no call yet
  pub quiet_none : (d : D) → IsQuiet seen images moment since d d
  quiet_none d = record { same = refl; nothing_new = λ c now. now; leaves = started moment since d (images d) (only_now d) }

  -- one call
  pub leaves_nothing_new : (a b : D) → NothingNew (images a) (images b) → Elapses (moment a) (moment b) (since a) (since b) (images b) → LeavesOnly moment since a b (images a)
  leaves_nothing_new a b nothing time = goes_on moment since a a b (images a) (images b) (started moment since a (images a) (only_now a)) time nothing

  pub quiet_call : (a b : D) → seen b ≡ seen a → NothingNew (images a) (images b) → Elapses (moment a) (moment b) (since a) (since b) (images b) → IsQuiet seen images moment since a b
  quiet_call a b same nothing time = record { same = same; nothing_new = nothing; leaves = leaves_nothing_new a b nothing time }

  -- two quiet runs
  pub quiet_then : (a b c : D) → IsQuiet seen images moment since a b → IsQuiet seen images moment since b c → IsQuiet seen images moment since a c
  quiet_then a b c p q = record {
    same = q.same ∙ p.same;
    nothing_new = λ x now. p.nothing_new x (q.nothing_new x now);
    leaves = joined moment since a b c (images a) (images b) (images a) p.leaves q.leaves (λ x now. now) p.nothing_new;
  }
