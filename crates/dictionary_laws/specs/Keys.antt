-- Keys as sets of labels, and one label put in the place of another.
use Rattle.std.specs.Prelude.{◌≡◌, ◌≢◌, ◌⊎◌, ℕ, zero, suc, ◌==◌, if◌then◌else◌, List, [], ◌∷◌}
use Rattle.std.specs.List.{Contains}
use Rattle.linear_laws.specs.Distinct.{AreDistinct}

-- how many labels stand before the first one that is k
abbrev pub place_in : List ℕ → ℕ → ℕ
place_in [] k = zero
place_in (x ∷ xs) k = if x == k then zero else suc (place_in xs k)

-- the two lists have the same labels
pub record HaveSameLabels (key other : List ℕ) : Type 0 where
  pub there : (k : ℕ) → Contains key k → Contains other k
  pub back : (k : ℕ) → Contains other k → Contains key k

-- the labels of `new`, each once, are r and the labels of `old` other than s
pub record Exchanges (old new : List ℕ) (r s : ℕ) : Type 0 where
  pub distinct : AreDistinct new
  pub entering : Contains new r
  pub kept : (k : ℕ) → Contains old k → k ≢ s → Contains new k
  pub only : (k : ℕ) → Contains new k → (k ≡ r) ⊎ (Contains old k × (k ≢ s))
