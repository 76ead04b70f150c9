-- What a work means: which lists of labels are its keys, how deep one lies under another, its children, what is shown at
-- one, and what is in its share.
-- Weights, splits and honest replies are defined once over it, for each work.
use Rattle.std.specs.Prelude.{◌≡◌, ◌+◌, ℕ, List, [], ◌∷◌, length}
use Rattle.poly_num.specs.Vectors.{Vector}
use Rattle.search_laws.specs.Shares.{ListsAll}

pub record Meaning : Type 1 where
  -- the key under which all others lie
  pub first_key : List ℕ
  pub is_key : List ℕ → Type 0
  -- the first lies so deep under the second
  pub is_depth : List ℕ → List ℕ → ℕ → Type 0
  -- at this label the first has the second as a child
  pub is_child_at : List ℕ → ℕ → List ℕ → Type 0
  -- the vector is shown at the key
  pub shows : List ℕ → Vector → Type 0
  -- the vector is in the share of the key
  pub in_share : List ℕ → Vector → Type 0

module _ (work : Meaning) where
  -- one key lies under another; each under itself
  abbrev pub StandsUnder : List ℕ → List ℕ → Type 0
  StandsUnder one key = (depth : ℕ) × work.is_depth one key depth

  abbrev pub IsKeyBelow : List ℕ → List ℕ → Type 0
  IsKeyBelow key one = work.is_key one × StandsUnder one key

  -- the weight of a key: how many keys lie under it, itself with them
  abbrev pub Weighs : List ℕ → ℕ → Type 0
  Weighs key weight = (ones : List (List ℕ)) × ListsAll (IsKeyBelow key) ones × (length ones ≡ weight)

  -- the weights of these keys add up to this
  abbrev pub WeighTogether : List (List ℕ) → ℕ → Type 0
  WeighTogether [] total = total ≡ 0
  WeighTogether (key ∷ keys) total =
      (weight : ℕ) × (rest : ℕ) × Weighs key weight × WeighTogether keys rest × (total ≡ weight + rest)
