-- What contracts see of a source and of a sink in memory.
use Rattle.std.specs.Prelude.{ℕ, List}

-- the bytes that are left, and how often a read has failed
pub record Input : Type 0 where
  pub left : List ℕ
  pub faults : ℕ

-- the bytes that were written, and how often a write has failed
pub record Output : Type 0 where
  pub written : List ℕ
  pub faults : ℕ
