-- The history that honest workers in memory tell is honest.
use Rattle.std.specs.Prelude.{◌≡◌, ℕ, List, [], ◌∷◌, ◌++◌, Some}
use Rattle.workers_io.specs.History.{Happening, IsHonest, StartedTexts, started, refused, replied, broken}
use Rattle.workers_io.specs.Memory.{MemWorkersState, StaysHonest, what_comes}

-- what came first is honest by itself
pub first_honest : (allows : List ℕ → List ℕ → Type 0) (starts : StartedTexts) (first more : List Happening) → IsHonest allows starts (first ++ more) → IsHonest allows starts first
first_honest allows starts [] more h = tt
first_honest allows starts (started a text ∷ first) more h = first_honest allows ((a, text) ∷ starts) first more h
first_honest allows starts (refused a text ∷ first) more h = first_honest allows ((a, text) ∷ starts) first more h
first_honest allows starts (replied a bytes ∷ first) more h = (h.0, first_honest allows starts first more h.1)
first_honest allows starts (broken a ∷ first) more h = first_honest allows starts first more h

pub honest_told : (allows : List ℕ → List ℕ → Type 0) (state : MemWorkersState) (happenings : List Happening) → StaysHonest allows state → state.history ≡ Some happenings → IsHonest allows [] happenings
honest_told allows state happenings honest told = first_honest allows [] happenings (what_comes state.coming) (honest.told happenings told)
