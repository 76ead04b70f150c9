-- Why a reply is not taken.
use Rattle.std.specs.Prelude.{ℕ, List, ◌++◌}
use Rattle.std.specs.List.{Contains}
use Rattle.run_state.specs.declared.stops.AcceptStop.{AcceptStop}
use Rattle.run_state.specs.declared.stops.AcceptStop.TheVariants.{Done, Stranger, Clash, Memory}
use Rattle.run_state.specs.KeyLists.{IsFirstClash, KnownKeys}

-- where these keys are known, a reply to this job that gives these keys back is refused for this reason. Want of
-- memory may always come
abbrev pub IsRefused : KnownKeys → List ℕ → List (List ℕ) → AcceptStop → Type 0
IsRefused keys job more Done = Contains keys.done job × (Contains keys.waiting job → ⊥)
IsRefused keys job more Stranger = (Contains keys.waiting job → ⊥) × (Contains keys.done job → ⊥)
IsRefused keys job more (Clash key) = Contains keys.waiting job × IsFirstClash (keys.waiting ++ keys.done) more key
IsRefused keys job more Memory = Unit {0}
