-- Checks one after the other: the first that fails is the answer.
use Rattle.std.specs.Prelude.{◌≡◌, ℕ, Bool, if◌then◌else◌, List, [], ◌∷◌, Option, Some, None, Result, Ok, Err, IsOk}
use Rattle.poly_reader.specs.declared.bad.BadKind.{BadKind}
use Rattle.poly_reader.specs.declared.bad.BadFile.{BadFile}
use Rattle.poly_reader.specs.declared.bad.ParseStop.{ParseStop}
use Rattle.poly_reader.specs.declared.bad.ParseStop.TheVariants as stops

-- what stands behind a check is looked at only where the check passed
infixl 10 ◌>>=◌
abbrev pub ◌>>=◌ : {A B : Type 0} → Result A BadFile → (A → Result B BadFile) → Result B BadFile
(Ok x) >>= f = f x
(Err e) >>= f = Err e

-- a check that passes gives nothing
abbrev pub Check : Type 0
Check = Result (Unit {0}) BadFile

-- the fault of this kind on this line
abbrev pub bad : {A : Type 0} → BadKind → ℕ → Result A BadFile
bad kind line = Err (record { kind = kind; line = line })

-- passes unless there is this fault
abbrev pub unless : Bool → BadKind → ℕ → Check
unless fault kind line = if fault then bad kind line else Ok tt

-- what there is, or else a fault
abbrev pub or_bad : {A : Type 0} → BadKind → ℕ → Option A → Result A BadFile
or_bad kind line None = bad kind line
or_bad kind line (Some x) = Ok x

-- each element passes, or the first fault among them
unfoldable pub each : {X : Type 0} → (X → Check) → List X → Check
each test [] = Ok tt
each test (x ∷ xs) = do
  done ← test x
  each test xs

-- a function of the program returned what is read, seen by view
abbrev pub Gives : {X Y : Type 0} → (X → Y) → Result X BadFile → Result Y BadFile → Type 0
Gives view (Ok x) read = read ≡ Ok (view x)
Gives view (Err f) read = read ≡ Err f

-- a function of the program stopped at the fault that is read, or memory ran out
abbrev pub Stops : {Y : Type 0} → ParseStop → Result Y BadFile → Type 0
Stops stops.Memory read = Unit {0}
Stops (stops.Bad f) read = read ≡ Err f

-- a function of the program returned what is read, seen by view, or memory ran out
abbrev pub Parses : {X Y : Type 0} → (X → Y) → Result X ParseStop → Result Y BadFile → Type 0
Parses view (Ok x) read = read ≡ Ok (view x)
Parses view (Err e) read = Stops e read

-- a check of the program passed where something is read, or found the fault
abbrev pub Checks : {X E : Type 0} → Result (Unit {0}) E → Result X E → Type 0
Checks (Ok done) read = IsOk read
Checks (Err f) read = read ≡ Err f
