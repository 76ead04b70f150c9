-- What a counter of pivots begins with.
use Rattle.std.specs.Prelude.{◌≡◌, ◌<◌, ℕ}

-- a blank with this name and so many parts is one of the ledger with the other name and parts, and has a part
abbrev pub IsBlankOf : ℕ → ℕ → ℕ → ℕ → Type 0
IsBlankOf name parts ledger_name ledger_parts = (name ≡ ledger_name) × (parts ≡ ledger_parts) × (0 < parts)
