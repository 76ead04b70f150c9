-- The two works into which the listing of a polyhedron is parted, and what each means.
use Rattle.std.specs.Prelude.{◌≡◌, ℕ, List, []}
use Rattle.poly_model.specs.declared.kind.WorkKind.{WorkKind}
use Rattle.poly_model.specs.declared.kind.WorkKind.TheVariants.{Subsets, Subtrees}
use Rattle.poly_model.specs.Systems.{Polyhedron}
use Rattle.poly_model.specs.Subtrees.{IsSubtreeRoot, IsSubtreeKey, IsSubtreeDepth, InSubtree}
use Rattle.work_core.specs.Meanings.{Meaning}
use Rattle.work_core.specs.Subsets.{IsSubsetKey, IsSubsetDepth, IsSubsetChildAt, IsShownAtList, InSubset}
use Rattle.work_core.specs.Subtrees.{IsSubtreeChildAt, IsShownAtCobasis}

-- by prefixes of subsets of rows
abbrev pub by_subsets : Polyhedron → Meaning
by_subsets p = record {
  first_key = [];
  is_key = IsSubsetKey p;
  is_depth = IsSubsetDepth;
  is_child_at = IsSubsetChildAt p;
  shows = IsShownAtList p;
  in_share = InSubset p;
}

-- by subtrees of the reverse search from this root
abbrev pub by_subtrees : Polyhedron → List ℕ → Meaning
by_subtrees p root = record {
  first_key = root;
  is_key = IsSubtreeKey p root;
  is_depth = IsSubtreeDepth p root;
  is_child_at = IsSubtreeChildAt p root;
  shows = IsShownAtCobasis p root;
  in_share = InSubtree p root;
}

-- what is searched: a polyhedron, by one of the two works, under a root (of subsets it is the empty key)
pub record Search : Type 0 where
  pub work : WorkKind
  pub polyhedron : Polyhedron
  pub root : List ℕ

abbrev pub meaning_by : WorkKind → Polyhedron → List ℕ → Meaning
meaning_by Subsets p root = by_subsets p
meaning_by Subtrees p root = by_subtrees p root

abbrev pub meaning_of : Search → Meaning
meaning_of s = meaning_by s.work s.polyhedron s.root

abbrev pub IsRootBy : WorkKind → Polyhedron → List ℕ → Type 0
IsRootBy Subsets p root = root ≡ []
IsRootBy Subtrees p root = IsSubtreeRoot p root

-- a search may begin at its root
abbrev pub MayBegin : Search → Type 0
MayBegin s = IsRootBy s.work s.polyhedron s.root
