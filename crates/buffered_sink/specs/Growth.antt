-- How the bytes of a sink grow.
use Rattle.std.specs.Prelude.{ℕ, List, Option, None, Some, ⊤}
use Rattle.std.specs.Io.{StartsWith}
use Rattle.std.specs.Coded.{Unit-prop, Coded-set, coded_list, coded_ℕ}

-- known bytes stay where they are, and more may have come behind them
abbrev pub HasGrown : Option (List ℕ) → Option (List ℕ) → Type 0
HasGrown None new = ⊤
HasGrown (Some xs) None = ⊥
HasGrown (Some xs) (Some ys) = StartsWith ys xs

pub HasGrown-prop : (old new : Option (List ℕ)) → IsProp (HasGrown old new)
HasGrown-prop None new = Unit-prop
HasGrown-prop (Some xs) None = λ h. absurd h
HasGrown-prop (Some xs) (Some ys) = Coded-set (coded_list coded_ℕ) _ _
