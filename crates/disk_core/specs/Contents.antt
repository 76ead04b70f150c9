-- What the calls of a disk do to its file, and what a crash may make of it between two syncs.
use Rattle.std.specs.Prelude.{◌≡◌, ◌⊎◌, ◌≤◌, ◌+◌, ◌-◌, ℕ, List, ◌++◌, length, take, drop, max, replicate, Option, Some}

-- where the content is told, it has P
abbrev pub Told : Option (List ℕ) → (List ℕ → Type 0) → Type 0
Told seen P = (file : List ℕ) → seen ≡ Some file → P file

-- new is old with these bytes at this offset, in place of those that stood there
abbrev pub Holds : List ℕ → ℕ → List ℕ → List ℕ → Type 0
Holds old at bytes new = new ≡ take at old ++ (bytes ++ drop (at + length bytes) old)

-- after a write of n bytes that a crash cuts short: any bytes in its range and past the old end, the same bytes elsewhere,
-- and a length from the old one to the one that the write reaches
pub record Torn (at n : ℕ) (old new : List ℕ) : Type 0 where
  pub before : take at new ≡ take at old
  pub after : drop (at + n) new ≡ drop (at + n) old
  pub no_shorter : length old ≤ length new
  pub no_longer : length new ≤ max (length old) (at + n)

-- a write at an offset within the file or at its end; of one past its end nothing is known
abbrev pub TornWithin : ℕ → ℕ → List ℕ → List ℕ → Type 0
TornWithin at n old new = at ≤ length old → Torn at n old new

-- the file at this length: its first bytes, or zeros behind it
abbrev pub resized : ℕ → List ℕ → List ℕ
resized len old = take len old ++ replicate (len - length old) 0

-- after a cut that a crash cuts short: the old file or the new one
abbrev pub Cut : ℕ → List ℕ → List ℕ → Type 0
Cut len old new = (new ≡ old) ⊎ (new ≡ resized len old)
