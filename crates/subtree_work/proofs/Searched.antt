-- A search by subtrees in the words of a work.
use Rattle.std.proofs.Common.{◌≡◌, ◌↔◌, ◌⊎◌, inl, inr, ap₂, List, ℕ, Bool, true, Option, Result, Ok, Err, sym, subst}
use Rattle.std.specs.Prelude.{IfOk, IfErr, OnErr}
use Rattle.poly_model.specs.declared.kind.WorkKind.TheVariants.{Subtrees}
use Rattle.poly_model.specs.declared.listed.Count.{Count}
use Rattle.poly_model.specs.declared.overflow.Overflow.{Overflow}
use Rattle.poly_model.specs.Due.{IsDue, IsAskedInMain, IsAskedOnTheWay}
use Rattle.poly_model.specs.Subtrees.{IsSubtreeRoot, IsSubtreeKey}
use Rattle.poly_model.specs.Systems.{Polyhedron}
use Rattle.work_core.specs.declared.budget.Budget.{Budget}
use Rattle.work_core.specs.declared.stops.WorkStop.{WorkStop}
use Rattle.work_core.specs.Meanings.{Meaning}
use Rattle.work_core.specs.ReplyLines.{IsWholeRun, IsCutRun, IsTornRun}
use Rattle.work_core.specs.Searches.{Search, MayBegin, by_subtrees, meaning_of}
use Rattle.subtree_work.specs.Made.{BySubtrees, IsAskedForKey, IsAskedInRun}

-- asked for in a run
pub due_in_run : (p : Polyhedron) (from to root : List ℕ) (o : Overflow) → IsDue p o (IsAskedInMain p root o) →
    IsDue p o (λ passes. IsAskedOnTheWay p from to o passes ⊎ IsAskedInMain p root o passes)
due_in_run p from to root o d = record { passes = d.passes; asked = inr d.asked }

-- asked for by a work that stands at a key
module _ (made : BySubtrees) (s : Search) (stands : IsSubtreeKey s.polyhedron made.root made.at) (key : List ℕ) where
  pub asked_for_key : (r : Result Bool Overflow) → IfErr r (λ o. IsDue s.polyhedron o (IsAskedOnTheWay s.polyhedron made.at key o)) →
      IfErr r (λ o. IsDue s.polyhedron o (IsAskedForKey made s key o))
  asked_for_key (Ok b) h = tt
  asked_for_key (Err o) h = record { passes = h.passes; asked = record { stands = stands; way = h.asked } }

  pub asked_in_run : (o : Overflow) → IsDue s.polyhedron o (λ passes. IsAskedOnTheWay s.polyhedron made.at key o passes
      ⊎ IsAskedInMain s.polyhedron made.root o passes) → IsDue s.polyhedron o (IsAskedInRun made s key o)
  asked_in_run o h = record {
    passes = h.passes;
    asked = elim h.asked [ inl w ↦ inl (record { stands = stands; way = w }) | inr m ↦ inr m ];
  }

module _ (s : Search) (root : List ℕ) (work : s.work ≡ Subtrees) (same : s.root ≡ root) where
  abbrev by_tree : Search
  by_tree = record { work = Subtrees; polyhedron = s.polyhedron; root = root }

  same_search : s ≡ by_tree
  same_search = ap₂ (λ w r. record { work = w; polyhedron = s.polyhedron; root = r }) work same

  pub may_begin : IsSubtreeRoot s.polyhedron root → MayBegin s
  may_begin h = subst (λ (t : Search). MayBegin t) (sym same_search) h

  pub key_there : (key : List ℕ) → Meaning.is_key (meaning_of s) key → IsSubtreeKey s.polyhedron root key
  key_there key k = subst (λ (t : Search). Meaning.is_key (meaning_of t) key) same_search k

  pub key_told : {E : Type 0} (key : List ℕ) (r : Result Bool E) →
      IfOk r (λ b. b ≡ true ↔ IsSubtreeKey s.polyhedron root key) →
      IfOk r (λ b. b ≡ true ↔ Meaning.is_key (meaning_of s) key)
  key_told key r h =
      subst (λ (t : Search). IfOk r (λ b. b ≡ true ↔ Meaning.is_key (meaning_of t) key)) (sym same_search) h

  module _ (key : List ℕ) (old new : Option (List ℕ)) where
    pub whole_told : (budget : Budget) (r : Result Count WorkStop) →
        IfOk r (IsWholeRun (by_subtrees s.polyhedron root) key budget old new) →
        IfOk r (IsWholeRun (meaning_of s) key budget old new)
    whole_told budget r h =
        subst (λ (t : Search). IfOk r (IsWholeRun (meaning_of t) key budget old new)) (sym same_search) h

    pub cut_told : IsCutRun (by_subtrees s.polyhedron root) key old new → IsCutRun (meaning_of s) key old new
    cut_told h = subst (λ (t : Search). IsCutRun (meaning_of t) key old new) (sym same_search) h

    pub torn_told : (r : Result Count WorkStop) → OnErr r (IsTornRun (by_subtrees s.polyhedron root) key old new) →
        OnErr r (IsTornRun (meaning_of s) key old new)
    torn_told r h = subst (λ (t : Search). OnErr r (IsTornRun (meaning_of t) key old new)) (sym same_search) h
