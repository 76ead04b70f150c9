-- Child processes: one runs for each attempt that is out.
use Rattle.std.specs.Prelude.{◌≡◌, ◌⊎◌, ℕ, List, [], ◌∷◌}
use Rattle.std.specs.List.{AllByRecursion}

-- the number is one of these
abbrev pub IsAmong : List ℕ → ℕ → Type 0
IsAmong [] a = ⊥
IsAmong (b ∷ numbers) a = (b ≡ a) ⊎ IsAmong numbers a

-- of the attempts of the children that run, and those that are out
abbrev pub AreRun : List ℕ → List ℕ → Type 0
AreRun running out = AllByRecursion (IsAmong running) out
