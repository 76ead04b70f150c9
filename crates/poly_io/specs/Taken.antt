-- How many bytes were taken out of a source.
use Rattle.std.specs.Prelude.{◌≡◌, ◌≤◌, ℕ, List, length, Option}
use Rattle.std.specs.Io.KnownBytes.{Consumes}

-- known bytes lose their first n bytes
pub record Takes (old new : Option (List ℕ)) (n : ℕ) : Type 0 where
  pub taken : List ℕ
  pub count : length taken ≡ n
  pub bytes : Consumes old new taken

-- known bytes lose some first bytes, at most n
pub record TakesAtMost (old new : Option (List ℕ)) (n : ℕ) : Type 0 where
  pub taken : List ℕ
  pub count : length taken ≤ n
  pub bytes : Consumes old new taken
