-- A whole parted into rows and the shares of keys: each of its vectors is one of the rows, or in the share of one of
-- the keys, and stands in one place only.
use Rattle.std.specs.Prelude.{◌≡◌, ◌⊎◌, ℕ, List}
use Rattle.std.specs.List.{Contains}
use Rattle.poly_num.specs.Vectors.{Vector}
use Rattle.linear_laws.specs.Distinct.{AreDistinct}

pub record Partition (whole : Vector → Type 0) (share : List ℕ → Vector → Type 0) (rows : List Vector)
    (keys : List (List ℕ)) : Type 0 where
  pub rows_once : AreDistinct rows
  pub keys_once : AreDistinct keys
  -- the rows and the shares are the whole
  pub covers : (y : Vector) → whole y → Contains rows y ⊎ ((key : List ℕ) × Contains keys key × share key y)
  pub rows_within : (y : Vector) → Contains rows y → whole y
  pub keys_within : (key : List ℕ) (y : Vector) → Contains keys key → share key y → whole y
  -- no vector stands in two places
  pub apart : (key : List ℕ) (y : Vector) → Contains keys key → share key y → Contains rows y → ⊥
  pub one_key : (key other : List ℕ) (y : Vector) → Contains keys key → Contains keys other → share key y →
      share other y → key ≡ other

-- by what is a key, which key lies under which, and what is in the share of a key
module _ (is_key : List ℕ → Type 0) (lies_under : List ℕ → List ℕ → Type 0) (share : List ℕ → Vector → Type 0) where
  -- a key that lies under another, and is not it
  pub record IsGivenBack (key one : List ℕ) : Type 0 where
    pub key_of : is_key one
    pub under : lies_under one key
    pub other : one ≡ key → ⊥

  -- the rows and the keys given back part the share of a key, and none of these keys lies under another
  pub record PartsShare (key : List ℕ) (rows : List Vector) (keys : List (List ℕ)) : Type 0 where
    pub parts : Partition (share key) share rows keys
    pub given : (one : List ℕ) → Contains keys one → IsGivenBack key one
    pub side_by_side : (one other : List ℕ) → Contains keys one → Contains keys other → lies_under one other →
        one ≡ other
