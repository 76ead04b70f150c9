-- Calls that are stopped and begun anew.
use Rattle.std.specs.Prelude.{◌≡◌, ◌<◌, ℕ, List, [], ◌∷◌, ◌++◌, length}
use Rattle.job_text.specs.Rule.{IsReplyFor}
use Rattle.run_state.specs.Payloads.{AreShort, IsLedgerText}
use Rattle.run_state.specs.Legal.{IsLegal}
use Rattle.workers_io.specs.History.{IsHonest, StartedTexts}
use Rattle.coordinator_core.specs.Machine.{AreOptions}
use Rattle.coordinator_laws.specs.Courses.{Course, IsCourse, payloads_added}

-- a front of legal records that is not empty is legal
abbrev pub FrontsAreLegal : Type 0
FrontsAreLegal = (front rest : List (List ℕ)) → 0 < length front → IsLegal (front ++ rest) → IsLegal front

-- what a call under honest workers may leave that goes on from records: these, and a front of what it accepted
pub record MayLeave (before after : List (List ℕ)) : Type 0 where
  pub course : Course
  pub in_range : AreOptions course.options
  pub are_records : IsLedgerText course.search course.replies before
  pub goes : IsCourse course
  pub starts : StartedTexts
  pub honest : IsHonest IsReplyFor starts course.happenings
  pub front : List (List ℕ)
  pub rest : List (List ℕ)
  pub split : payloads_added course ≡ front ++ rest
  pub left : after ≡ before ++ front

-- calls one after the other, each begun on what the one before has left
abbrev pub MayLeaveInTurn : List (List ℕ) → List (List (List ℕ)) → Type 0
MayLeaveInTurn before [] = Unit {0}
MayLeaveInTurn before (after ∷ afters) = MayLeave before after × MayLeaveInTurn after afters

-- what the last of them has left
abbrev pub left_last : List (List ℕ) → List (List (List ℕ)) → List (List ℕ)
left_last before [] = before
left_last before (after ∷ afters) = left_last after afters

-- however often a call is stopped and begun anew, legal records stay legal
abbrev pub RestartsKeepLegal : Type 0
RestartsKeepLegal =
    (before : List (List ℕ)) (afters : List (List (List ℕ))) → AreShort before → IsLegal before →
    MayLeaveInTurn before afters → IsLegal (left_last before afters)
