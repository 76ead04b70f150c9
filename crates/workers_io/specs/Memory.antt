-- Workers in memory: what becomes of a reply, what is still to come, and when these workers are honest.
use Rattle.std.specs.Prelude.{◌≡◌, ◌⊎◌, ℕ, ◌==◌, not, true, false, if◌then◌else◌, List, [], ◌∷◌, ◌++◌, map, take, get_or, Option, Some, None}
use Rattle.std.specs.Bool.{MatchBool}
use Rattle.std.specs.List.{AllByRecursion, filter}
use Rattle.workers_io.specs.declared.collected.Collected.{Collected}
use Rattle.workers_io.specs.declared.collected.Collected.TheVariants.{Reply, Broken}
use Rattle.workers_io.specs.declared.coming.Coming.{Coming}
use Rattle.workers_io.specs.declared.fate.Fate.{Fate}
use Rattle.workers_io.specs.declared.fate.Fate.TheVariants.{Keep, Lose, Cut, Twice, Late, Replace}
use Rattle.workers_io.specs.Collects.{collected_attempt, happening_of}
use Rattle.workers_io.specs.History.{Happening, IsHonest}

-- the attempts that are out, and what is still to come, in order
pub record Queued : Type 0 where
  pub out : List ℕ
  pub coming : List Coming

-- what contracts see: the attempts that are out, what is still to come, what happened, where that is told, the fates of
-- the starts to come, how many starts there were, and how often a start or an attempt has failed
pub record MemWorkersState : Type 0 where
  pub out : List ℕ
  pub coming : List Coming
  pub history : Option (List Happening)
  pub fates : List Fate
  pub starts : ℕ
  pub faults : ℕ

-- it comes at its turn
abbrev pub prompt : Collected → Coming
prompt gives = record { late = false; gives = gives }

-- the bytes that come of a reply
abbrev pub changed : Fate → List (List ℕ) → List ℕ → List ℕ
changed (Cut n) others reply = take n reply
changed (Replace k) others reply = get_or others k []
changed f others reply = reply

-- what a fate lets come of an attempt with this reply, or with none
abbrev pub fated : Fate → List (List ℕ) → ℕ → Option (List ℕ) → List Coming
fated f others a None = prompt (Broken a) ∷ []
fated Lose others a (Some reply) = prompt (Broken a) ∷ []
fated Twice others a (Some reply) = prompt (Reply a reply) ∷ prompt (Reply a reply) ∷ []
fated Late others a (Some reply) = record { late = true; gives = Reply a reply } ∷ []
fated f others a (Some reply) = prompt (Reply a (changed f others reply)) ∷ []

-- the fate of the next start; past the end of the table each reply comes
abbrev pub first_fate : List Fate → Fate
first_fate [] = Keep
first_fate (f ∷ fates) = f

abbrev pub coming_attempt : Coming → ℕ
coming_attempt c = collected_attempt c.gives

-- what is left to come, once an attempt with this number was started
abbrev pub without : ℕ → List Coming → List Coming
without a coming = filter (λ c. not (coming_attempt c == a)) coming

-- what was to come of this attempt is broken
abbrev pub spoiled_one : ℕ → Coming → Coming
spoiled_one a c = if coming_attempt c == a then prompt (Broken a) else c

-- what is left to come, once the start of an attempt with this number has failed
abbrev pub spoiled : ℕ → List Coming → List Coming
spoiled a coming = map (spoiled_one a) coming

-- what is given next, and what is left then: one that is late lets the next one go first, once
abbrev pub GivesNext : List Coming → Collected → List Coming → Type 0
GivesNext [] given left = ⊥
GivesNext (c ∷ []) given left = (given ≡ c.gives) × (left ≡ [])
GivesNext (c ∷ d ∷ more) given left = MatchBool c.late ((given ≡ d.gives) × (left ≡ prompt c.gives ∷ more)) ((given ≡ c.gives) × (left ≡ d ∷ more))

-- something is to come of this attempt
abbrev pub HasMore : List Coming → ℕ → Type 0
HasMore [] a = ⊥
HasMore (c ∷ coming) a = (coming_attempt c ≡ a) ⊎ HasMore coming a

-- no bytes come in a reply's place
abbrev pub IsFaithful : Fate → Type 0
IsFaithful (Replace k) = ⊥
IsFaithful f = Unit {0}

abbrev pub what_comes : List Coming → List Happening
what_comes coming = map (λ c. happening_of c.gives) coming

-- a told history is honest, also with all behind it that is still to come; and no fate to come replaces a reply
pub record StaysHonest (allows : List ℕ → List ℕ → Type 0) (state : MemWorkersState) : Type 0 where
  pub told : (happenings : List Happening) → state.history ≡ Some happenings → IsHonest allows [] (happenings ++ what_comes state.coming)
  pub faithful : AllByRecursion IsFaithful state.fates
