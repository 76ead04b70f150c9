-- The least of the numbers of a list that are asked for.
use Rattle.std.specs.Prelude.{ℕ, List, Option}
use Rattle.std.specs.List.{Contains}
use Rattle.std.specs.Option.{MatchOption}

-- r is one of these that is asked for, and it is at most each other
pub record IsLeastAsked (IsAsked : ℕ → Type 0) (AtMost : ℕ → ℕ → Type 0) (numbers : List ℕ) (r : ℕ) : Type 0 where
  pub member : Contains numbers r
  pub asked : IsAsked r
  pub least : (i : ℕ) → Contains numbers i → IsAsked i → AtMost r i

-- none of these is asked for
abbrev pub NoneOf : (ℕ → Type 0) → List ℕ → Type 0
NoneOf IsAsked numbers = (i : ℕ) → Contains numbers i → IsAsked i → ⊥

-- the least of them, if there is one
abbrev pub IsLeastSoFar : (ℕ → Type 0) → (ℕ → ℕ → Type 0) → List ℕ → Option ℕ → Type 0
IsLeastSoFar IsAsked AtMost numbers least =
    MatchOption least (NoneOf IsAsked numbers) (λ r. IsLeastAsked IsAsked AtMost numbers r)
