-- One step of a run: a cobasis is visited or given back, or the walk goes back.
use Rattle.std.specs.Prelude.{◌≡◌, ◌⊎◌, ℕ, ◌+◌, ◌-◌, ◌≤◌, ◌<◌, List, [], ◌∷◌, length, Option}
use Rattle.poly_model.specs.declared.listed.Count.{Count}
use Rattle.poly_model.specs.Systems.{System}
use Rattle.search_laws.specs.Shares.{ListsAll}
use Rattle.reverse_step.specs.declared.walker.Visit.{Visit}
use Rattle.reverse_step.specs.declared.walker.Visit.TheVariants.{New, Back, End}
use Rattle.reverse_step.specs.Walks.{Walk}
use Rattle.reverse_step.specs.Moves.{past, IsVisit}
use Rattle.reverse_step.specs.Children.{StopsWalk}
use Rattle.convert_core.specs.Rows.{columns_of, column_rows}
use Rattle.work_core.specs.declared.budget.Budget.{Budget}
use Rattle.work_core.specs.declared.stops.WorkStop.{WorkStop}
use Rattle.work_core.specs.declared.stops.WorkStop.TheVariants.{Overflow, WriteFault}
use Rattle.work_core.specs.ReplyLines.{job_line, WritesLines, WritesPartOfLines}
use Rattle.subtree_work.specs.declared.progress.Progress.{Progress}
use Rattle.subtree_work.specs.Rows.{lines_of_rows, IsShownOf, TearsRows}

-- ---- the budget
-- a base may be visited at this depth, after so many
pub record AllowsVisit (budget : Budget) (depth bases : ℕ) : Type 0 where
  pub bases_left : bases < budget.bases
  pub above : 0 < budget.depth → depth < budget.depth

-- it may not
abbrev pub MustGiveBack : Budget → ℕ → ℕ → Type 0
MustGiveBack budget depth bases = (budget.bases ≤ bases) ⊎ ((0 < budget.depth) × (budget.depth ≤ depth))

-- ---- at a new cobasis
-- one base more: the rows that are shown there were written, and are counted
pub record VisitsBase (sys : System) (walk : Walk) (old new : Option (List ℕ)) (before after : Count) : Type 0 where
  pub shown : List ℕ
  pub all : ListsAll (IsShownOf sys walk.root walk.dict (columns_of walk.dict)) shown
  pub written : WritesLines old new (lines_of_rows (column_rows sys walk.dict shown))
  pub rows : after.rows ≡ before.rows + length shown
  pub jobs : after.jobs ≡ before.jobs
  pub bases : after.bases ≡ before.bases + 1

-- its key was given back
pub record GivesKeyBack (key : List ℕ) (old new : Option (List ℕ)) (before after : Count) : Type 0 where
  pub written : WritesLines old new (job_line key ∷ [])
  pub rows : after.rows ≡ before.rows
  pub jobs : after.jobs ≡ before.jobs + 1
  pub bases : after.bases ≡ before.bases

-- it was visited where it may be, and else given back; then its columns are passed over
abbrev pub VisitsOrGivesBack : Budget → System → Walk → Walk → ℕ → Option (List ℕ) → Option (List ℕ) → Count → Count → Type 0
VisitsOrGivesBack budget sys there after depth old new c e =
    (AllowsVisit budget depth c.bases × (after ≡ there) × VisitsBase sys there old new c e)
    ⊎ (MustGiveBack budget depth c.bases × (after ≡ past there) × GivesKeyBack there.dict.key old new c e)

-- a write failed there: in the lines of its rows, or in the line that gives its key back
abbrev pub FailsAt : System → Walk → Option (List ℕ) → Option (List ℕ) → Type 0
FailsAt sys there old new =
    TearsRows sys there.root there.dict (columns_of there.dict) old new
    ⊎ WritesPartOfLines old new (job_line there.dict.key ∷ [])

-- ---- one step
pub record MeetsNewBase (budget : Budget) (sys : System) (before after : Walk) (s : Progress) (old : Option (List ℕ))
    (t : Progress) (new : Option (List ℕ)) : Type 0 where
  pub there : Walk
  pub visit : IsVisit before New there
  pub depth : t.depth ≡ s.depth + 1
  pub meets : VisitsOrGivesBack budget sys there after t.depth old new s.count t.count

abbrev pub MovesOn : Budget → System → Walk → Visit → Walk → Progress → Option (List ℕ) → Progress → Option (List ℕ) → Type 0
MovesOn budget sys before New after s old t new = MeetsNewBase budget sys before after s old t new
MovesOn budget sys before Back after s old t new =
    IsVisit before Back after × (t.depth ≡ s.depth - 1) × (t.count ≡ s.count) × (new ≡ old)
MovesOn budget sys before End after s old t new = IsVisit before End after × (t ≡ s) × (new ≡ old)

-- a number passes in its pivot, and nothing has changed; or a write failed at a new cobasis
abbrev pub StopsRun : System → Walk → Walk → Option (List ℕ) → Option (List ℕ) → WorkStop → Type 0
StopsRun sys before after old new (Overflow o) =
    StopsWalk before.dict before.root o × (after ≡ before) × (new ≡ old)
StopsRun sys before after old new WriteFault = IsVisit before New after × FailsAt sys after old new
