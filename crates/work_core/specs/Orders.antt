-- In which order a run meets keys, depth first and children by ascending label; and which it visits and which it gives
-- back.
use Rattle.std.specs.Prelude.{◌≡◌, ◌⊎◌, ℕ, suc, ◌≤◌, ◌<◌, List, [], ◌∷◌, ◌++◌}
use Rattle.std.specs.List.{Contains}
use Rattle.poly_model.specs.Keys.{IsAscending}

-- what became of a key that was met
pub data Met : Type 0 where
  visited : List ℕ → Met
  given_back : List ℕ → Met

abbrev pub keys_visited : List Met → List (List ℕ)
keys_visited [] = []
keys_visited (visited key ∷ met) = key ∷ keys_visited met
keys_visited (given_back key ∷ met) = keys_visited met

abbrev pub keys_given_back : List Met → List (List ℕ)
keys_given_back [] = []
keys_given_back (visited key ∷ met) = keys_given_back met
keys_given_back (given_back key ∷ met) = key ∷ keys_given_back met

module _ (IsChildAt : List ℕ → ℕ → List ℕ → Type 0) where
  -- at these labels, one after the other, the key has these children
  abbrev pub AreAt : List ℕ → List ℕ → List (List ℕ) → Type 0
  AreAt key [] [] = Unit {0}
  AreAt key (s ∷ labels) (child ∷ children) = IsChildAt key s child × AreAt key labels children
  AreAt key [] (child ∷ children) = ⊥
  AreAt key (s ∷ labels) [] = ⊥

  -- these are all children of the key, by ascending label
  pub record AreChildren (key : List ℕ) (children : List (List ℕ)) : Type 0 where
    pub labels : List ℕ
    pub ascending : IsAscending labels
    pub at : AreAt key labels children
    pub each : (s : ℕ) (child : List ℕ) → IsChildAt key s child → Contains labels s

  module _ (IsDeep : List ℕ → Type 0) (most : ℕ) where
    -- Where n keys were visited and these wait, all this is met. The first that waits is visited where fewer than `most` were
    -- and it is not deep, and then its children wait in front of the others; else it is given back.
    abbrev pub Meets : ℕ → List (List ℕ) → List Met → Type 0
    Meets n waiting [] = waiting ≡ []
    Meets n waiting (visited key ∷ met) =
        (rest : List (List ℕ)) × (waiting ≡ key ∷ rest) × (n < most) × (IsDeep key → ⊥)
        × (children : List (List ℕ)) × AreChildren key children × Meets (suc n) (children ++ rest) met
    Meets n waiting (given_back key ∷ met) =
        (rest : List (List ℕ)) × (waiting ≡ key ∷ rest) × ((most ≤ n) ⊎ IsDeep key) × Meets n rest met
