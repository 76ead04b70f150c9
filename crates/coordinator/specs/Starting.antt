-- What a start gave.
use Rattle.std.specs.Prelude.{◌≡◌, ℕ, Bool, true, false, List, [], ◌∷◌, ◌++◌, Option}
use Rattle.workers_io.specs.History.{Happening, Tells, started, refused}
use Rattle.coordinator_core.specs.Machine.{State}
use Rattle.coordinator_core.specs.Traces.{started_or_lost}

-- what is told of it
abbrev pub start_told : Bool → ℕ → List ℕ → Happening
start_told true attempt text = started attempt text
start_told false attempt text = refused attempt text

-- the attempts that are out after it
abbrev pub out_with : Bool → List ℕ → ℕ → List ℕ
out_with true out attempt = out ++ attempt ∷ []
out_with false out attempt = out

-- an attempt was given this text, or its start failed and is a loss
pub record IsStarted (s t : State) (attempt : ℕ) (text : List ℕ) (out out' : List ℕ) (old new : Option (List Happening)) : Type 0 where
  pub began : Bool
  pub state : t ≡ started_or_lost s attempt began
  pub are_out : out' ≡ out_with began out attempt
  pub told : Tells old new (start_told began attempt text ∷ [])
