-- The least column in which t has an entry of a kind.
use Rattle.std.specs.Prelude.{◌≡◌, ◌≢◌, ◌⊎◌, ℕ, ℤ, pos, ◌<ℤ◌, List}
use Rattle.poly_model.specs.Dictionaries.{Table}
use Rattle.poly_model.specs.LexOrder.{IsEarlier}
use Rattle.dictionary.specs.Views.{Dictionary, table_of}
use Rattle.phase_one.specs.declared.least.Sought.{Sought}
use Rattle.phase_one.specs.declared.least.Sought.TheVariants.{Negative, Nonzero}
use Rattle.phase_one.specs.SoFar.{IsLeastAsked}

-- a number is of this kind
abbrev pub IsSought : Sought → ℤ → Type 0
IsSought Negative z = z <ℤ pos 0
IsSought Nonzero z = z ≢ pos 0

-- the entry of t in the column of k is
abbrev pub HasSought : Dictionary → Sought → ℕ → Type 0
HasSought d sought k = IsSought sought (Table.entry (table_of d) 0 k)

-- it is the same label, or comes before the other
abbrev pub IsNotLater : List ℕ → List ℕ → ℕ → ℕ → Type 0
IsNotLater labels root s k = (k ≡ s) ⊎ IsEarlier labels root s k

-- s is the least of these labels in whose columns it is
abbrev pub IsLeastAmong : Dictionary → List ℕ → Sought → List ℕ → ℕ → Type 0
IsLeastAmong d root sought labels s = IsLeastAsked (HasSought d sought) (IsNotLater d.labels root) labels s
