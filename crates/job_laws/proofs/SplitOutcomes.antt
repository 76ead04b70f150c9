-- An outcome parts the share of its key within its budget, for both works.
use Rattle.std.proofs.Common.{ℕ, ◌≤◌, List, sym, subst}
use Rattle.poly_model.specs.declared.kind.WorkKind.{WorkKind}
use Rattle.poly_model.specs.declared.kind.WorkKind.TheVariants.{Subsets, Subtrees}
use Rattle.poly_model.specs.Limits.{most_labels}
use Rattle.poly_model.specs.Systems.{Polyhedron}
use Rattle.work_core.specs.Meanings.{Meaning}
use Rattle.work_core.specs.Searches.{IsRootBy, meaning_by, meaning_of}
use Rattle.work_core.specs.Splits.{IsWithinBudget}
use Rattle.work_core.specs.Walks.{WalksSplit}
use Rattle.work_core.proofs.SubsetShares.{subset_walks_split}
use Rattle.work_core.proofs.SubtreeShares.{subtree_walks_split, shares_hold}
use Rattle.job_laws.specs.SplitOutcomes.{OutcomesSplit}
use Rattle.job_laws.proofs.Branches.{works_have_branches}
use Rattle.job_laws.proofs.WithinBudget.{splits, within_budget}

walks_split : (work : WorkKind) (p : Polyhedron) (root : List ℕ) → IsRootBy work p root → p.n ≤ most_labels →
    WalksSplit (meaning_by work p root) (Meaning.shows (meaning_by work p root))
walks_split Subsets p root h l = subset_walks_split p l
walks_split Subtrees p root h l = subtree_walks_split p root h

pub outcomes_split : OutcomesSplit
outcomes_split s begins narrow key budget rows keys bases is range f =
    let law = walks_split s.work s.polyhedron s.root begins narrow in
    let shares = shares_hold s begins in
    let branches = works_have_branches s begins in (
      splits (meaning_of s) shares branches key budget is range f.met f.is_run rows f.rows_are keys f.keys_are law,
      subst (λ n. IsWithinBudget (meaning_of s) key budget keys n) (sym f.bases_are)
          (within_budget (meaning_of s) shares branches key budget is range f.met f.is_run rows f.rows_are keys f.keys_are law),
    )
