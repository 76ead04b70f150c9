-- The keys of both works branch.
use Rattle.std.proofs.Common.{ℕ, List}
use Rattle.poly_model.specs.declared.kind.WorkKind.{WorkKind}
use Rattle.poly_model.specs.declared.kind.WorkKind.TheVariants.{Subsets, Subtrees}
use Rattle.poly_model.specs.Systems.{Polyhedron}
use Rattle.work_core.specs.Searches.{IsRootBy, meaning_by}
use Rattle.job_laws.specs.Branches.{HasBranches, WorksHaveBranches}
use Rattle.job_laws.proofs.SubsetBranches.{subsets_branch}
use Rattle.job_laws.proofs.SubtreeBranches.{subtrees_branch}

branches_by : (work : WorkKind) (p : Polyhedron) (root : List ℕ) → IsRootBy work p root → HasBranches (meaning_by work p root)
branches_by Subsets p root h = subsets_branch p
branches_by Subtrees p root h = subtrees_branch p root h

pub works_have_branches : WorksHaveBranches
works_have_branches s begins = branches_by s.work s.polyhedron s.root begins
