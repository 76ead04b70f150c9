-- A disk that tells nothing.
use Rattle.std.specs.Prelude.{◌≡◌, ℕ, List, Option, None, Some, is_some}
use Rattle.std.proofs.Common.{ap, sym, true≢false}

-- what is untold is no content
pub untold : (file : List ℕ) → ◌≡◌ {A = Option (List ℕ)} None (Some file) → ⊥
untold file told = true≢false (sym (ap is_some told))
