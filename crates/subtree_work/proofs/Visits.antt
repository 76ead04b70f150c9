-- What a visit of a cobasis has written.
use Rattle.std.proofs.Common.{◌≡◌, ℕ, ◌+◌, List, Option, subst, arith}
use Rattle.poly_model.specs.declared.listed.Count.{Count}
use Rattle.poly_model.specs.Systems.{System}
use Rattle.dictionary.specs.Views.{Dictionary}
use Rattle.reverse_step.specs.Walks.{Walk}
use Rattle.convert_core.specs.Rows.{columns_of}
use Rattle.subtree_work.specs.Rows.{ShowsRows, TearsRows}
use Rattle.subtree_work.specs.Steps.{VisitsBase}

module _ (sys : System) (walk : Walk) (root : List ℕ) (d : Dictionary) (same_root : root ≡ walk.root) (same : d ≡ walk.dict)
    (old new : Option (List ℕ)) where
  visited_here : (before one after : Count) → one.rows ≡ before.rows → one.jobs ≡ before.jobs →
      one.bases ≡ before.bases + 1 → ShowsRows sys walk.root walk.dict (columns_of walk.dict) old new one after →
      VisitsBase sys walk old new before after
  visited_here before one after r j b s = record {
    shown = s.shown;
    all = s.all;
    written = s.written;
    rows = let x = s.rows in omega (arith, x, r);
    jobs = let x = s.jobs in omega (arith, x, j);
    bases = let x = s.bases in omega (arith, x, b);
  }

  pub is_visited : (before one after : Count) → one.rows ≡ before.rows → one.jobs ≡ before.jobs →
      one.bases ≡ before.bases + 1 → ShowsRows sys root d (columns_of d) old new one after →
      VisitsBase sys walk old new before after
  is_visited before one after r j b s =
      visited_here before one after r j b
      (subst (λ (x : Dictionary). ShowsRows sys walk.root x (columns_of x) old new one after) same
      (subst (λ (x : List ℕ). ShowsRows sys x d (columns_of d) old new one after) same_root s))

  pub is_torn_there : TearsRows sys root d (columns_of d) old new →
      TearsRows sys walk.root walk.dict (columns_of walk.dict) old new
  is_torn_there s =
      subst (λ (x : Dictionary). TearsRows sys walk.root x (columns_of x) old new) same
      (subst (λ (x : List ℕ). TearsRows sys x d (columns_of d) old new) same_root s)
