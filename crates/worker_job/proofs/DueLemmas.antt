-- Overflows of the two works are due in the job of which they are.
use Rattle.std.proofs.Common.{◌≡◌, ◌⊎◌, inl, inr, sym, subst}
use Rattle.poly_model.specs.declared.kind.WorkKind.{WorkKind}
use Rattle.poly_model.specs.declared.kind.WorkKind.TheVariants.{Subsets, Subtrees}
use Rattle.poly_model.specs.declared.overflow.Overflow.{Overflow as Passed}
use Rattle.poly_model.specs.declared.overflow.Phase.TheVariants.{Cone}
use Rattle.poly_model.specs.Due.{IsDue, IsAskedBefore}
use Rattle.plain_enum.specs.Plain.{PassesInCone}
use Rattle.subtree_work.specs.Made.{BySubtrees, IsBySubtrees, IsAskedForKey, IsAskedInRun, IsDueOnWayToRoot}
use Rattle.job_text.specs.declared.job.Job.{Job}
use Rattle.job_text.specs.Rule.{search_of}
use Rattle.worker_job.specs.Due.{IsDueBy, IsDueInJob, IsAskedUnder}

-- by the work that the job names
module _ (job : Job) (work : WorkKind) (same : job.head.work ≡ work) (o : Passed) where
  named : IsDueBy work job.poly job.head.root.key job.head.key o → IsDueInJob job o
  named h = subst (λ (w : WorkKind). IsDueBy w job.poly job.head.root.key job.head.key o) (sym same) h

-- ---- by subsets
pub due_in_cone : (job : Job) → job.head.work ≡ Subsets → (o : Passed) → PassesInCone job.poly o → IsDueInJob job o
due_in_cone job same o h = named job Subsets same o h

pub due_by_subsets : (job : Job) → job.head.work ≡ Subsets → (o : Passed) →
    IsDue job.poly o (λ passes. ⊥ ⊎ (o.phase ≡ Cone)) → IsDueInJob job o
due_by_subsets job same o h =
    due_in_cone job same o
    (record { phase = elim h.asked [ inl never ↦ absurd never | inr cone ↦ cone ]; passes = h.passes })

-- ---- by subtrees
pub due_before : (job : Job) → job.head.work ≡ Subtrees → (o : Passed) →
    IsDue job.poly o (IsAskedBefore job.poly o) ⊎ IsDueOnWayToRoot job.poly job.head.root.key o → IsDueInJob job o
due_before job same o (inl h) = named job Subtrees same o (inl h)
due_before job same o (inr h) = named job Subtrees same o (inr (inl h))

pub due_by_subtrees : (job : Job) → job.head.work ≡ Subtrees → (w : BySubtrees) (o : Passed) → IsBySubtrees w (search_of job) →
    IsDue job.poly o (λ passes. IsAskedForKey w (search_of job) job.head.key o passes
    ⊎ IsAskedInRun w (search_of job) job.head.key o passes) → IsDueInJob job o
due_by_subtrees job same w o is h =
    named job Subtrees same o (inr (inr (record {
      passes = h.passes;
      asked = elim h.asked [ inl k ↦ way k | inr (inl k) ↦ way k | inr (inr m) ↦ inr (rw is.root m) ];
    })))
  where
    way : IsAskedForKey w (search_of job) job.head.key o h.passes → IsAskedUnder job.poly job.head.root.key job.head.key o h.passes
    way k = inl (w.at, rw is.root k.stands, k.way)
