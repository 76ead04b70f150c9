-- What a step makes of a run on its way: it goes on, it ends, or it stops.
use Rattle.std.proofs.Common.{◌≡◌, inl, inr, ℕ, ◌+◌, List, length, Option, Result, Err, refl, sym, subst, ◌∙◌, arith}
use Rattle.std.specs.Prelude.{IsErrOf}
use Rattle.poly_io.specs.Causes.{Rose, RisesAt}
use Rattle.poly_num.specs.Vectors.{Vector}
use Rattle.poly_model.specs.declared.listed.Count.{Count}
use Rattle.poly_model.specs.declared.overflow.Overflow.{Overflow as Passed}
use Rattle.poly_model.specs.Due.{IsDue, IsAskedInMain}
use Rattle.poly_model.specs.Systems.{System, Polyhedron, cone_of}
use Rattle.reverse_step.specs.declared.walker.Visit.{Visit}
use Rattle.reverse_step.specs.declared.walker.Visit.TheVariants.{New, Back, End}
use Rattle.reverse_step.specs.Walks.{Walk}
use Rattle.reverse_step.specs.Moves.{IsVisit}
use Rattle.convert_core.specs.declared.rays.Rays.{Rays}
use Rattle.convert_core.specs.Searches.{IsSearch}
use Rattle.convert_core.proofs.Searching.{another_vector, search_moves}
use Rattle.work_core.specs.declared.budget.Budget.{Budget}
use Rattle.work_core.specs.declared.stops.WorkStop.{WorkStop}
use Rattle.work_core.specs.declared.stops.WorkStop.TheVariants.{Overflow, WriteFault}
use Rattle.work_core.specs.ReplyLines.{IsWholeRun, IsCutRun, IsTornRun}
use Rattle.work_core.specs.Searches.{by_subtrees}
use Rattle.work_core.specs.Splits.{IsBudget}
use Rattle.work_core.proofs.WalkedLemmas.{cut_is_torn}
use Rattle.subtree_work.specs.declared.progress.Progress.{Progress}
use Rattle.subtree_work.specs.Counts.{IsInReach}
use Rattle.subtree_work.specs.Made.{IsSearchOfEach}
use Rattle.subtree_work.specs.Steps.{MeetsNewBase, VisitsOrGivesBack, FailsAt, MovesOn, StopsRun}
use Rattle.subtree_work.proofs.Running.{Running}
use Rattle.subtree_work.proofs.Going.{goes_new, goes_given, goes_back}
use Rattle.subtree_work.proofs.Ending.{cut_now, due_now, torn_now, whole_run}

-- a write failed at a new cobasis
pub fails_there : (sys : System) (before after : Walk) (old new : Option (List ℕ)) (stop : WorkStop) →
    ((o : Passed) → IsErrOf {T = Count} {E = WorkStop} (Err stop) (WorkStop.Overflow o) → ⊥) → IsVisit before New after →
    FailsAt sys after old new → StopsRun sys before after old new stop
fails_there sys before after old new (Overflow o) n v f = absurd (n o refl)
fails_there sys before after old new WriteFault n v f = (v, f)

-- where a step stops the run, the count of the sink's faults has stood still until then
pub rises_at_stop : {T : Type 0} (before mid now : ℕ) (r : Result Count WorkStop) (stop : WorkStop) → mid ≡ before → r ≡ Err stop →
    RisesAt {T = T} WriteFault mid now (Err stop) → RisesAt WriteFault before now r
rises_at_stop {T = T} before mid now r stop same is rises = record {
  later = let l = rises.later in omega (arith, l, same);
  failed = λ e.
      let f : IsErrOf {T = T} {E = WorkStop} (Err stop) WriteFault = cc in
      subst (λ n. Rose n now) same (rises.failed f);
  same = λ other. rises.same (λ f. let e : IsErrOf r WriteFault = cc in other e) ∙ same;
}

module _ (p : Polyhedron) (sys : System) (rays : Rays) (budget : Budget) (first : Walk) where
  abbrev Runs : Walk → Vector → ℕ → Progress → Option (List ℕ) → Option (List ℕ) → Type 0
  Runs = Running p sys rays budget first

  -- the numbers are small enough for one step more
  pub in_reach : (walk : Walk) (vector : Vector) (left : ℕ) (s : Progress) (old now : Option (List ℕ)) →
      IsBudget budget → Runs walk vector left s old now → IsInReach s
  in_reach walk vector left s old now b g = record {
    sum = record {
      rows = let r = g.rows in let f = g.full in let n = g.bases in omega (arith, r, f, n);
      jobs = let r = g.jobs in let f = g.many in let n = g.bases in omega (arith, r, f, n);
    };
    deep = let l = g.low in let n = g.bases in omega (arith, l, n);
    few = let m = g.most in let n = b.bases in omega (arith, m, n);
  }

  -- a counter is lowered, and a step taken over the same cone
  module _ (walk : Walk) (vector : Vector) (before left : ℕ) (lower : before ≡ left + 1) (s : Progress)
      (old now : Option (List ℕ)) (h : Runs walk vector before s old now) (seen : System) (same_sys : seen ≡ sys)
      (new : Walk) (more : Vector) (width : length more ≡ length vector) (t : Progress) (then : Option (List ℕ)) where
    g : Runs walk vector (left + 1) s old now
    g = subst (λ n. Runs walk vector n s old now) lower h

    moved : (visit : Visit) → MovesOn budget seen walk visit new s now t then → MovesOn budget sys walk visit new s now t then
    moved visit x = subst (λ (y : System). MovesOn budget y walk visit new s now t then) same_sys x

    stopped : (stop : WorkStop) → StopsRun seen walk new now then stop → StopsRun sys walk new now then stop
    stopped stop x = subst (λ (y : System). StopsRun y walk new now then stop) same_sys x

    met : (x : MeetsNewBase budget sys walk new s now t then) →
        VisitsOrGivesBack budget sys x.there new t.depth now then s.count t.count → Runs new more left t old then
    met x (inl (may, same, v)) =
        subst (λ (w : Walk). Runs w more left t old then) (sym same)
        (goes_new p sys rays budget first walk vector left s old now g x.there x.visit t then x.depth may v more width)
    met x (inr (must, same, v)) =
        subst (λ (w : Walk). Runs w more left t old then) (sym same)
        (goes_given p sys rays budget first walk vector left s old now g x.there x.visit t then x.depth must v more width)

    -- ---- it goes on
    on_by : (visit : Visit) → (visit ≡ End → ⊥) → MovesOn budget sys walk visit new s now t then →
        Runs new more left t old then
    on_by New n x = met x x.meets
    on_by Back n (v, d, c, e) =
        goes_back p sys rays budget first walk vector left s old now g new v t then d c e more width
    on_by End n x = absurd (n refl)

    pub takes_on : (visit : Visit) → (visit ≡ End → ⊥) → MovesOn budget seen walk visit new s now t then →
        Runs new more left t old then
    takes_on visit n x = on_by visit n (moved visit x)

    at_end : (visit : Visit) → visit ≡ End → MovesOn budget seen walk visit new s now t then →
        MovesOn budget sys walk End new s now t then
    at_end visit e x = subst (λ (v : Visit). MovesOn budget sys walk v new s now t then) e (moved visit x)

    -- ---- it ends
    pub takes_last : IsBudget budget → (visit : Visit) → visit ≡ End → MovesOn budget seen walk visit new s now t then →
        IsWholeRun (by_subtrees p first.root) first.job budget old then t.count
    takes_last b visit e x =
        let (v, c, same) = at_end visit e x in
        subst (λ (u : Progress). IsWholeRun (by_subtrees p first.root) first.job budget old then u.count) (sym c)
        (subst (λ o. IsWholeRun (by_subtrees p first.root) first.job budget old o s.count) (sym same)
        (whole_run p sys rays budget first walk vector left s old now g b new v))

    pub search_at_end : (visit : Visit) → visit ≡ End → MovesOn budget seen walk visit new s now t then →
        IsSearch p sys rays new more
    search_at_end visit e x = search_moves p sys rays walk vector g.search End new more (at_end visit e x).0 width

    -- ---- it stops
    torn_by : (stop : WorkStop) → StopsRun sys walk new now then stop →
        IsTornRun (by_subtrees p first.root) first.job old then
    torn_by (Overflow o) (a, e, b) =
        subst (λ x. IsTornRun (by_subtrees p first.root) first.job old x) (sym b)
        (cut_is_torn (by_subtrees p first.root) first.job old now
        (cut_now p sys rays budget first walk vector (left + 1) s old now g))
    torn_by WriteFault (v, f) = torn_now p sys rays budget first walk vector left s old now g new v then f

    pub torn_at : (stop : WorkStop) → StopsRun seen walk new now then stop →
        IsTornRun (by_subtrees p first.root) first.job old then
    torn_at stop x = torn_by stop (stopped stop x)

    same_overflow : (a o : Passed) → IsErrOf {T = Count} {E = WorkStop} (Err (WorkStop.Overflow a)) (WorkStop.Overflow o) →
        a ≡ o
    same_overflow a o i = cc

    cut_by : (stop : WorkStop) → StopsRun sys walk new now then stop → (o : Passed) →
        IsErrOf {T = Count} {E = WorkStop} (Err stop) (WorkStop.Overflow o) →
        IsDue p o (IsAskedInMain p first.root o) × IsCutRun (by_subtrees p first.root) first.job old then
    cut_by (Overflow a) (d, e, b) o i = (
      subst (λ (x : Passed). IsDue p x (IsAskedInMain p first.root x)) (same_overflow a o i)
          (due_now p sys rays budget first walk vector (left + 1) s old now g a d),
      subst (λ x. IsCutRun (by_subtrees p first.root) first.job old x) (sym b)
          (cut_now p sys rays budget first walk vector (left + 1) s old now g),
    )
    cut_by WriteFault x o i = absurd cc

    pub cut_at : (stop : WorkStop) → StopsRun seen walk new now then stop → (o : Passed) →
        IsErrOf {T = Count} {E = WorkStop} (Err stop) (WorkStop.Overflow o) →
        IsDue p o (IsAskedInMain p first.root o) × IsCutRun (by_subtrees p first.root) first.job old then
    cut_at stop x o i = cut_by stop (stopped stop x) o i

    search_by : (stop : WorkStop) → StopsRun sys walk new now then stop → IsSearch p sys rays new more
    search_by (Overflow a) (d, e, b) =
        subst (λ (w : Walk). IsSearch p sys rays w more) (sym e) (another_vector p sys rays walk vector g.search more width)
    search_by WriteFault (v, f) = search_moves p sys rays walk vector g.search New new more v width

    pub search_at_stop : (stop : WorkStop) → StopsRun seen walk new now then stop → IsSearch p sys rays new more
    search_at_stop stop x = search_by stop (stopped stop x)

-- the same cone, seen again
pub search_from : (sys now : System) (rays then : Rays) (walk : Walk) (vector : Vector) → (p : Polyhedron) × (sys ≡ cone_of p) →
    ((p : Polyhedron) → sys ≡ cone_of p → IsSearch p sys rays walk vector) → now ≡ sys → then ≡ rays →
    IsSearchOfEach now then walk vector
search_from sys now rays then walk vector file search e f = record {
  file = (file.0, e ∙ file.1);
  each = λ p h. subst (λ (s : System). IsSearch p s then walk vector) (sym e)
      (subst (λ (r : Rays). IsSearch p sys r walk vector) (sym f) (search p (sym e ∙ h)));
}

-- the same walk, with other room
pub search_again : (sys now : System) (rays then : Rays) (walk there : Walk) (vector more : Vector) →
    IsSearchOfEach sys rays walk vector → now ≡ sys → then ≡ rays → there ≡ walk → length more ≡ length vector → IsSearchOfEach
    now then there more
search_again sys now rays then walk there vector more h e f same width =
    search_from sys now rays then there more h.file
    (λ p file. subst (λ (w : Walk). IsSearch p sys rays w more) (sym same)
    (another_vector p sys rays walk vector (h.each p file) more width)) e f
