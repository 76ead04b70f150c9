-- What a search lists, why it ends before its end, and how many pivots it takes.
use Rattle.std.specs.Prelude.{◌≡◌, ◌⊎◌, ℕ, ◌+◌, ◌*◌, ◌≤◌, List, ◌++◌, Option, Result, IfOk, OnErr}
use Rattle.std.specs.List.{flat_map}
use Rattle.poly_num.specs.Vectors.{Vector}
use Rattle.poly_model.specs.declared.overflow.Overflow.{Overflow as Passed}
use Rattle.poly_model.specs.Due.{IsDue, IsAskedBefore, IsAskedInFirst, IsAskedInMain}
use Rattle.poly_model.specs.Extreme.{AreExtreme}
use Rattle.poly_model.specs.ListingText.{row_text}
use Rattle.poly_model.specs.PhaseOne.{IsSearchRoot}
use Rattle.poly_model.specs.Systems.{System, Polyhedron, cone_of}
use Rattle.search_laws.specs.SharesOfListings.{IsSubtreeWeight}
use Rattle.poly_io.specs.Written.{AppendsPart}
use Rattle.dictionary.specs.Views.{Dictionary, overflow_of}
use Rattle.reverse_step.specs.declared.walker.Visit.{Visit}
use Rattle.reverse_step.specs.declared.walker.Visit.TheVariants.{New, Back, End}
use Rattle.reverse_step.specs.Walks.{Walk}
use Rattle.reverse_step.specs.Moves.{IsVisit}
use Rattle.reverse_step.specs.Children.{StopsWalk}
use Rattle.row_printer.specs.declared.shown.Shown.{Shown}
use Rattle.row_printer.specs.declared.tally.Tally.{Tally}
use Rattle.row_printer.specs.Rows.{HasWritten}
use Rattle.convert_core.specs.declared.walk.StepStop.{StepStop}
use Rattle.convert_core.specs.declared.walk.StepStop.TheVariants.{Passing, WriteFault as Unwritten}
use Rattle.convert_core.specs.declared.walk.Ended.{Ended}
use Rattle.convert_core.specs.declared.walk.Ended.TheVariants.{Overflow, WriteFault}
use Rattle.convert_core.specs.Rows.{WritesShown, FailsShown, columns_of}

-- ---- one step
-- what is shown at a new cobasis was written; elsewhere nothing
abbrev pub StepShows : {O : Type 0} → (O → Option (List ℕ)) → (O → ℕ) → System → Visit → Walk → Shown → O → Shown → O →
    Type 0
StepShows written faults sys New walk s old t new =
    WritesShown written faults sys walk.root walk.dict (columns_of walk.dict) s old t new
StepShows written faults sys Back walk s old t new = (t ≡ s) × (new ≡ old)
StepShows written faults sys End walk s old t new = (t ≡ s) × (new ≡ old)

-- the walk moved, and what is shown there was written
pub record WritesStep {O : Type 0} (written : O → Option (List ℕ)) (faults : O → ℕ) (sys : System) (before : Walk)
    (visit : Visit) (after : Walk) (s : Shown) (old : O) (t : Shown) (new : O) : Type 0 where
  pub moved : IsVisit before visit after
  pub shows : StepShows written faults sys visit after s old t new

-- a number passes in its pivot; or a write failed at the new cobasis
abbrev pub EndsStep : {O : Type 0} → (O → Option (List ℕ)) → (O → ℕ) → System → Walk → Walk → Shown → O → O → Ended →
    Type 0
EndsStep written faults sys before after s old new (Overflow o) =
    StopsWalk before.dict before.root o × (new ≡ old)
EndsStep written faults sys before after s old new WriteFault =
    IsVisit before New after × FailsShown written faults sys after.root after.dict (columns_of after.dict) s old new

-- why a walk ends where a step was not carried out: products that pass are those of this dictionary
abbrev pub ended_by : Dictionary → StepStop → Ended
ended_by d (Passing products) = Overflow (overflow_of d products)
ended_by d Unwritten = WriteFault

-- ---- all steps
-- the rows of all extreme vectors were written, each once; at Err first bytes of those of some
pub record ListsRows {E : Type 0} (p : Polyhedron) (old new : Option (List ℕ)) (before : Tally) (result : Result Shown E) :
    Type 0 where
  pub whole : IfOk result (λ s. (shown : List Vector) × AreExtreme (cone_of p) shown
      × HasWritten p.kind old new before s.tally shown)
  pub part : OnErr result ((shown : List Vector) × (rest : List Vector) × AreExtreme (cone_of p) (shown ++ rest)
      × AppendsPart old new (flat_map (row_text p.kind) shown))

-- a pivot of the search of p cannot be carried out, since a number passes: one before the search, one of phase one, or
-- one at a lexicographically feasible cobasis under the root
abbrev pub IsDueInSearch : Polyhedron → Passed → Type 0
IsDueInSearch p o =
    IsDue p o (IsAskedBefore p o) ⊎ IsDue p o (IsAskedInFirst p o)
    ⊎ ((root : List ℕ) × IsSearchRoot p root × IsDue p o (IsAskedInMain p root o))

-- at most two pivots were counted for each lexicographically feasible cobasis, less one
abbrev pub TakesSteps : Polyhedron → ℕ → ℕ → Type 0
TakesSteps p before now =
    (root : List ℕ) (bases : ℕ) → IsSearchRoot p root → IsSubtreeWeight p root root bases → now + 1 ≤ before + 2 * bases
