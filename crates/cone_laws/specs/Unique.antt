-- There is exactly one thing of a kind.
use Rattle.std.specs.Prelude.{◌≡◌}

-- one thing has the property, and whatever has it is that thing
pub record ExactlyOne {A : Type 0} (P : A → Type 0) : Type 0 where
  pub one : A
  pub has : P one
  pub only : (other : A) → P other → other ≡ one
