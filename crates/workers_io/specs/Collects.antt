-- What a collect leaves.
use Rattle.std.specs.Prelude.{ℕ, ◌==◌, not, List}
use Rattle.std.specs.List.{filter}
use Rattle.workers_io.specs.declared.collected.Collected.{Collected}
use Rattle.workers_io.specs.declared.collected.Collected.TheVariants.{Reply, Broken}
use Rattle.workers_io.specs.History.{Happening, replied, broken}

-- the attempt that it names
abbrev pub collected_attempt : Collected → ℕ
collected_attempt (Reply attempt bytes) = attempt
collected_attempt (Broken attempt) = attempt

-- what is told of it
abbrev pub happening_of : Collected → Happening
happening_of (Reply attempt bytes) = replied attempt bytes
happening_of (Broken attempt) = broken attempt

abbrev pub IsBroken : Collected → Type 0
IsBroken (Reply attempt bytes) = ⊥
IsBroken (Broken attempt) = Unit {0}

-- the attempts that are out, less the one that it names
abbrev pub out_after : List ℕ → ℕ → List ℕ
out_after out attempt = filter (λ a. not (a == attempt)) out
