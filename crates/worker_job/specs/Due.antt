-- Of which pivot an overflow of a job is: by subtrees of one that the job cannot do without, by subsets of any in the cone.
use Rattle.std.specs.Prelude.{◌⊎◌, ℕ, List}
use Rattle.poly_model.specs.declared.kind.WorkKind.{WorkKind}
use Rattle.poly_model.specs.declared.kind.WorkKind.TheVariants.{Subsets, Subtrees}
use Rattle.poly_model.specs.declared.overflow.Overflow.{Overflow as Passed}
use Rattle.poly_model.specs.Due.{IsDue, IsAskedBefore, IsAskedInMain, IsAskedOnTheWay}
use Rattle.poly_model.specs.Overflows.{Passes}
use Rattle.poly_model.specs.Subtrees.{IsSubtreeKey}
use Rattle.poly_model.specs.Systems.{Polyhedron}
use Rattle.plain_enum.specs.Plain.{PassesInCone}
use Rattle.subtree_work.specs.Made.{IsDueOnWayToRoot}
use Rattle.work_core.specs.declared.work.Work.{Ghosts as Work}
use Rattle.job_text.specs.declared.job.Job.{Job}
use Rattle.job_text.specs.Rule.{search_of}

-- on the way to the key from another key of the search under this root; or in the walk
abbrev pub IsAskedUnder : (p : Polyhedron) → List ℕ → List ℕ → (o : Passed) → Passes p o → Type 0
IsAskedUnder p root key o passes =
    ((from : List ℕ) × IsSubtreeKey p root from × IsAskedOnTheWay p from key o passes) ⊎ IsAskedInMain p root o passes

-- by subsets: in the elimination of the cone. By subtrees: before a search; on the way from the start cobasis to the root; or
-- under the root
abbrev pub IsDueBy : WorkKind → Polyhedron → List ℕ → List ℕ → Passed → Type 0
IsDueBy Subsets p root key o = PassesInCone p o
IsDueBy Subtrees p root key o =
    IsDue p o (IsAskedBefore p o) ⊎ (IsDueOnWayToRoot p root o ⊎ IsDue p o (IsAskedUnder p root key o))

-- by the work and the key of a job
abbrev pub IsDueInJob : Job → Passed → Type 0
IsDueInJob job o = IsDueBy job.head.work job.poly job.head.root.key job.head.key o

-- as a work stands, it asks for the pivot where it tells whether the job's key is one of it, or in a run under that key
abbrev pub IsDueInWork : {W : Type 0} → Work W → W → Job → Passed → Type 0
IsDueInWork work w job o = IsDue job.poly o (λ passes. work.is_asked_for_key w (search_of job) job.head.key o passes
    ⊎ work.is_asked_in_run w (search_of job) job.head.key o passes)
