-- A walk over the keys of a work: some are visited, some are given back, and the rows shown at those visited are written.
use Rattle.std.specs.Prelude.{◌≡◌, ◌⊎◌, ◌↔◌, ℕ, ◌+◌, List, length}
use Rattle.std.specs.List.{Contains}
use Rattle.poly_num.specs.Vectors.{Vector}
use Rattle.linear_laws.specs.Distinct.{AreDistinct}
use Rattle.work_core.specs.Meanings.{Meaning, StandsUnder, IsKeyBelow, Weighs, WeighTogether}
use Rattle.work_core.specs.Splits.{Splits}

module _ (work : Meaning) where
  -- it lies under one of these
  abbrev pub StandsUnderSome : List (List ℕ) → List ℕ → Type 0
  StandsUnderSome keys one = (k : List ℕ) × Contains keys k × StandsUnder work one k

  -- what is shown at a key, by the shares: each vector at one key, and a share is what is shown at the keys under its key
  pub record ShowsAt (Shows : List ℕ → Vector → Type 0) : Type 0 where
    pub one_key : (a b : List ℕ) (y : Vector) → Shows a y → Shows b y → a ≡ b
    pub share : (key : List ℕ) (y : Vector) → work.is_key key →
        work.in_share key y ↔ ((one : List ℕ) × IsKeyBelow work key one × Shows one y)

  -- of the keys in question these are visited and these given back, and the rows are those shown at the keys visited
  pub record IsWalk (Shows : List ℕ → Vector → Type 0) (in_question : List ℕ → Type 0)
      (visited given : List (List ℕ)) (rows : List Vector) : Type 0 where
    pub once : AreDistinct visited
    pub only : (one : List ℕ) → Contains visited one → in_question one
    -- each is visited or lies under a key given back, and not both
    pub each : (one : List ℕ) → in_question one → Contains visited one ⊎ StandsUnderSome given one
    pub not_both : (one : List ℕ) → Contains visited one → StandsUnderSome given one → ⊥
    -- what is given back are keys, under no two of which one key lies, and all under them are in question
    pub given_once : AreDistinct given
    pub given_keys : (k : List ℕ) → Contains given k → work.is_key k
    pub given_within : (k one : List ℕ) → Contains given k → IsKeyBelow work k one → in_question one
    pub apart : (j k one : List ℕ) → Contains given j → Contains given k → IsKeyBelow work j one → IsKeyBelow work k one →
        j ≡ k
    pub rows_once : AreDistinct rows
    pub rows_shown : (y : Vector) → Contains rows y → (one : List ℕ) × Contains visited one × Shows one y
    pub shown_rows : (one : List ℕ) (y : Vector) → Contains visited one → Shows one y → Contains rows y

-- what a walk over the keys under a key leaves: a split of its share, and the weights add up
pub record LeavesSplit (work : Meaning) (key : List ℕ) (visited given : List (List ℕ)) (rows : List Vector) : Type 0 where
  pub splits : Splits work key rows given
  pub whole : ℕ
  pub left : ℕ
  pub weighs : Weighs work key whole
  pub weigh : WeighTogether work given left
  pub visits : length visited + left ≡ whole

abbrev pub WalksSplit : Meaning → (List ℕ → Vector → Type 0) → Type 0
WalksSplit work Shows =
    (key : List ℕ) → work.is_key key → (visited given : List (List ℕ)) (rows : List Vector) →
    IsWalk work Shows (IsKeyBelow work key) visited given rows → Contains visited key → LeavesSplit work key visited given rows
