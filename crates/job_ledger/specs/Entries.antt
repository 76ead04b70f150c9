-- What stands in a file from a gate on.
use Rattle.std.specs.Prelude.{◌≡◌, ◌<◌, ◌-◌, ℕ, List, ◌∷◌, ◌++◌, length, take, drop}
use Rattle.job_ledger.specs.Records.{HasNoFrame, IsShort, frame}
use Rattle.job_ledger.specs.declared.entry.Entry.{Entry}
use Rattle.job_ledger.specs.declared.entry.Entry.TheVariants.{Broken, Closed, Record}
use Rattle.job_ledger.specs.declared.window.Window.{Window}

-- behind an open gate: a record of so many bytes with a gate behind it, or no record
abbrev pub IsBehindGate : Entry → List ℕ → Type 0
IsBehindGate Closed behind = ⊥
IsBehindGate (Record len) behind = (payload : List ℕ) × (rest : List ℕ) × (behind ≡ frame payload ++ rest) × (0 < length rest) × (len ≡ length payload) × IsShort payload
IsBehindGate Broken behind = HasNoFrame behind

-- a closed gate, or an open one and what is behind it
abbrev pub IsEntry : Entry → List ℕ → Type 0
IsEntry Closed text = (gate : ℕ) × (rest : List ℕ) × (text ≡ gate ∷ rest) × (gate ≡ 245 → ⊥)
IsEntry entry text = (behind : List ℕ) × (text ≡ 245 ∷ behind) × IsBehindGate entry behind

-- a window holds bytes of a file
abbrev pub IsWindow : Window → List ℕ → Type 0
IsWindow w file = w.bytes.items ≡ take (length w.bytes.items) (drop w.from file)

-- the bytes of a window from an offset on, as many as the head of a record has: a gate, 13 digits and LF
abbrev pub head_in : Window → ℕ → List ℕ
head_in w at = take 15 (drop (at - w.from) w.bytes.items)
