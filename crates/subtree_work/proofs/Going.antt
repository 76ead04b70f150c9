-- A run on its way, one step further: a cobasis is visited or given back, or the walk is back at the parent.
use Rattle.std.proofs.Common.{◌≡◌, ◌⊎◌, inl, inr, ⊎_elim, ℕ, suc, ◌+◌, ◌-◌, ◌<◌, ◌≤◌, List, [], ◌∷◌, ◌++◌, length, length-append, append-nil, Option, refl, sym, ap, subst, ◌∙◌, arith}
use Rattle.std.specs.Prelude.{IsPermutation}
use Rattle.std.specs.List.{Contains}
use Rattle.std.proofs.lemmas.List.{length-map}
use Rattle.std.proofs.lemmas.List.Elements.{Contains-append_cases}
use Rattle.std.proofs.lemmas.List.Sorted.{IsPermutation-refl, IsPermutation-push_more}
use Rattle.poly_num.specs.Vectors.{Vector}
use Rattle.poly_model.specs.declared.listed.Count.{Count}
use Rattle.poly_model.specs.Dictionaries.{Table}
use Rattle.poly_model.specs.Spaces.{Space, main_space}
use Rattle.poly_model.specs.Subtrees.{IsSubtreeRoot, IsSubtreeDepth}
use Rattle.poly_model.specs.Systems.{System, Polyhedron}
use Rattle.poly_model.specs.Tree.{IsAbove}
use Rattle.linear_laws.proofs.Members.{Contains-first, Contains-later}
use Rattle.search_laws.specs.Shares.{ListsAll, IsChild, IsChildAt, IsFeasibleKey}
use Rattle.search_laws.specs.SharesOfListings.{IsShownAtSome}
use Rattle.search_laws.proofs.SubtreeRuns.{runs_part}
use Rattle.dictionary.specs.Views.{table_of}
use Rattle.reverse_step.specs.declared.walker.Visit.TheVariants.{New, Back}
use Rattle.reverse_step.specs.Walks.{Walk, IsWalkIn}
use Rattle.reverse_step.specs.Moves.{past, IsAtNew, IsVisit}
use Rattle.reverse_step.specs.Runs.{HasRun}
use Rattle.reverse_step.proofs.RunLemmas.{at_new, not_visited, run_new, new_waiting, new_depth, run_given, given_waiting, given_depth, run_back, back_waiting, back_depth}
use Rattle.reverse_step.proofs.DepthLemmas.{stands_at_depth}
use Rattle.convert_core.specs.declared.rays.Rays.{Rays}
use Rattle.convert_core.specs.Rows.{column_rows}
use Rattle.convert_core.specs.Searches.{IsSearch}
use Rattle.convert_core.proofs.RowLists.{turned}
use Rattle.convert_core.proofs.Searching.{rows_here, elsewhere}
use Rattle.work_core.specs.declared.budget.Budget.{Budget}
use Rattle.work_core.specs.Orders.{Met, visited, given_back, keys_visited, keys_given_back, AreChildren}
use Rattle.work_core.specs.ReplyLines.{ReplyLine, job_line, WritesLines, rows_in_lines, keys_in_lines}
use Rattle.work_core.proofs.WalkedLemmas.{rows-append, keys-append, writes_then}
use Rattle.job_laws.proofs.LeadLemmas.{leads_visited, leads_given_back}
use Rattle.job_laws.proofs.MetLists.{visited-append, given_back-append}
use Rattle.subtree_work.specs.declared.progress.Progress.{Progress}
use Rattle.subtree_work.specs.Rows.{lines_of_rows}
use Rattle.subtree_work.specs.Steps.{AllowsVisit, MustGiveBack, VisitsBase, GivesKeyBack}
use Rattle.subtree_work.proofs.InOrder.{are_children}
use Rattle.subtree_work.proofs.RowLines.{rows_of_rows, keys_of_rows}
use Rattle.subtree_work.proofs.Running.{Running, Deep, LeadsOn, few_shown, children_few, one_above, one_deeper, going_root}

-- what was visited and given back, with one more visited
visited_then : (met : List Met) (key : List ℕ) (ones : List (List ℕ)) → IsPermutation (keys_visited met) ones →
    IsPermutation (keys_visited (met ++ visited key ∷ [])) (key ∷ ones)
visited_then met key ones same =
    subst (λ ks. IsPermutation ks (key ∷ ones)) (sym (visited-append met (visited key ∷ [])))
    (IsPermutation-push_more (keys_visited met) ones (key ∷ ones) key same (IsPermutation-refl (key ∷ ones)))

-- and with one more given back
visited_as_before : (met : List Met) (key : List ℕ) (ones : List (List ℕ)) → IsPermutation (keys_visited met) ones →
    IsPermutation (keys_visited (met ++ given_back key ∷ [])) ones
visited_as_before met key ones same =
    subst (λ ks. IsPermutation ks ones)
    (sym (visited-append met (given_back key ∷ []) ∙ append-nil (keys_visited met))) same

module _ (p : Polyhedron) (sys : System) (rays : Rays) (budget : Budget) (first : Walk) (walk : Walk) (vector : Vector)
    (left : ℕ) (s : Progress) (old now : Option (List ℕ))
    (g : Running p sys rays budget first walk vector (left + 1) s old now) where
  abbrev Runs : Walk → Vector → ℕ → Progress → Option (List ℕ) → Option (List ℕ) → Type 0
  Runs = Running p sys rays budget first

  abbrev main : Space
  main = main_space p g.search.free

  abbrev home : Table
  home = g.search.home

  root : IsSubtreeRoot p first.root
  root = going_root p sys rays budget first walk vector (left + 1) s old now g

  -- ---- at a new cobasis
  module _ (new : Walk) (step : IsVisit walk New new) where
    abbrev at : IsAtNew main new g.run.depth g.run.waiting
    at = at_new main home first walk new g.ones g.given (left + 1) g.taken g.run step

    same_root : new.root ≡ first.root
    same_root = step.root ∙ g.run.root

    abbrev after : HasRun main home first new (new.dict.key ∷ g.ones) g.given left (g.taken + 1)
    after = run_new main home first walk new g.ones g.given left g.taken g.run step

    above : IsAbove main first.root (suc g.run.depth) new.dict.key first.job
    above =
        subst (λ n. IsAbove main first.root n new.dict.key first.job)
        (new_depth main home first walk new g.ones g.given left g.taken g.run step)
        (subst (λ j. IsAbove main first.root after.depth new.dict.key j) after.job
        (subst (λ r. IsAbove main r after.depth new.dict.key new.job) after.root
        (stands_at_depth main home first new (new.dict.key ∷ g.ones) g.given left (g.taken + 1) after)))

    pub new_deep : IsSubtreeDepth p first.root new.dict.key first.job (suc g.run.depth)
    new_deep = record { free = g.search.free; columns = g.search.columns; above = above }

    waits : Contains g.run.waiting new.dict.key
    waits = subst (λ ks. Contains ks new.dict.key) (sym at.first) (Contains-first new.dict.key at.rest)

    low_here : suc g.run.depth ≤ length g.ones
    low_here = g.near new.dict.key waits (suc g.run.depth) above

    walk_there : IsWalkIn main home new
    walk_there = step.walk main home g.search.walk_in

    abbrev moved : (more : Vector) → length more ≡ length vector → IsSearch p sys rays new more
    moved more width =
        elsewhere p sys rays walk vector g.search new more (step.walk main home g.search.walk_in)
        (step.phase ∙ g.search.phase) width

    still_waits : (k : List ℕ) → Contains at.rest k → (n : ℕ) → IsAbove main first.root n k first.job → n ≤ length g.ones
    still_waits k c n deep =
        g.near k (subst (λ ks. Contains ks k) (sym at.first) (Contains-later k new.dict.key at.rest c)) n deep

    -- it is visited
    module _ (t : Progress) (then : Option (List ℕ)) (deep : t.depth ≡ s.depth + 1)
        (may : AllowsVisit budget t.depth s.count.bases) (v : VisitsBase sys new now then s.count t.count)
        (more : Vector) (width : length more ≡ length vector) where
      abbrev ys : List Vector
      ys = column_rows sys new.dict v.shown

      long : length ys ≡ length v.shown
      long = length-map v.shown _

      here : ListsAll (IsShownAtSome p first.root (new.dict.key ∷ [])) ys
      here = subst (λ r. ListsAll (IsShownAtSome p r (new.dict.key ∷ [])) ys) same_root
          (rows_here p sys rays new vector (moved vector refl) v.shown v.all)

      fresh : Contains g.ones new.dict.key → ⊥
      fresh = not_visited main home first walk new g.ones g.given (left + 1) g.taken g.run step

      waiting_is : after.waiting ≡ at.cs ++ at.rest
      waiting_is = new_waiting main home first walk new g.ones g.given left g.taken g.run step

      children : ListsAll (IsChild main first.root new.dict.key) at.cs
      children = subst (λ r. ListsAll (IsChild main r new.dict.key) at.cs) same_root at.children

      in_order : AreChildren (IsChildAt main first.root) new.dict.key at.cs
      in_order = subst (λ r. AreChildren (IsChildAt main r) new.dict.key at.cs) same_root
          (are_children main new.root new.dict.key (table_of new.dict) walk_there.stands.feasible at.cs at.along)

      high : Deep p sys rays budget first main new.dict.key → ⊥
      high (given, n, reaches, x) =
          let f : IsFeasibleKey main first.root new.dict.key =
          subst (λ r. IsFeasibleKey main r new.dict.key) same_root (table_of new.dict, walk_there.stands.feasible) in
          let one = one_above p sys rays budget first main home new walk_there same_root new.dict.key n (suc g.run.depth) f x above in
          let u = may.above given in let l = g.level in omega (arith, reaches, one, u, deep, l)

      leads : LeadsOn p sys rays budget first main (g.met ++ visited new.dict.key ∷ []) (suc (length g.ones)) after.waiting
      leads =
          let l = may.bases_left in let b = g.bases in
          subst (LeadsOn p sys rays budget first main (g.met ++ visited new.dict.key ∷ []) (suc (length g.ones)))
          (sym waiting_is)
          (leads_visited (IsChildAt main first.root) (Deep p sys rays budget first main) budget.bases (first.job ∷ []) g.met
          (length g.ones) g.run.waiting new.dict.key at.rest at.cs g.leads at.first (omega (arith, l, b)) high in_order)

      close : (k : List ℕ) → Contains after.waiting k → (n : ℕ) → IsAbove main first.root n k first.job →
          n ≤ suc (length g.ones)
      close k c n d = ⊎_elim
          (λ (m : Contains at.cs k).
          let one = one_deeper p sys rays budget first main home new walk_there same_root new.dict.key k (suc g.run.depth) n
          (children.only k m) above d in
          let l = low_here in omega (arith, one, l))
          (λ (m : Contains at.rest k). let l = still_waits k m n d in omega (arith, l))
          (Contains-append_cases at.cs at.rest k (subst (λ ks. Contains ks k) waiting_is c))

      pub goes_new : Runs new more left t old then
      goes_new = record {
        search = moved more width;
        ones = new.dict.key ∷ g.ones;
        given = g.given;
        taken = g.taken + 1;
        run = after;
        met = g.met ++ visited new.dict.key ∷ [];
        leads = leads;
        ones_are = visited_then g.met new.dict.key g.ones g.ones_are;
        given_are = given_back-append g.met (visited new.dict.key ∷ []) ∙ append-nil (keys_given_back g.met) ∙ g.given_are;
        vectors = g.vectors ++ ys;
        shown = turned (IsShownAtSome p first.root (new.dict.key ∷ g.ones)) ys g.vectors
            ((runs_part p first.root root).more_rows new.dict.key g.ones ys g.vectors fresh here g.shown);
        lines = g.lines ++ lines_of_rows ys;
        written = writes_then old now then g.lines (lines_of_rows ys) g.written v.written;
        vectors_in = rows-append g.lines (lines_of_rows ys) ∙ ap (λ xs. rows_in_lines g.lines ++ xs) (rows_of_rows ys)
            ∙ ap (λ xs. xs ++ ys) g.vectors_in;
        keys_in = keys-append g.lines (lines_of_rows ys) ∙ ap (λ ks. keys_in_lines g.lines ++ ks) (keys_of_rows ys)
            ∙ append-nil (keys_in_lines g.lines) ∙ g.keys_in;
        rows = let a = v.rows in let b = g.rows in let l = length-append g.vectors ys in omega (arith, a, b, l, long);
        jobs = v.jobs ∙ g.jobs;
        bases = let a = v.bases in let b = g.bases in omega (arith, a, b);
        level = let a = g.level in
            let b = new_depth main home first walk new g.ones g.given left g.taken g.run step in omega (arith, deep, a, b);
        low = let a = g.low in omega (arith, deep, a);
        near = close;
        many = let a = g.many in let b = ap length waiting_is in let c = ap length at.first in
            let d = children_few p sys rays budget first new vector (moved vector refl) at.cs at.children in
            let l = length-append at.cs at.rest in omega (arith, a, b, c, d, l);
        full = let a = g.full in let b = few_shown p sys rays budget first new vector (moved vector refl) v.shown v.all in
            let l = length-append g.vectors ys in omega (arith, a, b, l, long);
        most = let a = v.bases in let l = may.bases_left in omega (arith, a, l);
      }

    -- it is given back
    module _ (t : Progress) (then : Option (List ℕ)) (deep : t.depth ≡ s.depth + 1)
        (must : MustGiveBack budget t.depth s.count.bases) (v : GivesKeyBack new.dict.key now then s.count t.count)
        (more : Vector) (width : length more ≡ length vector) where
      abbrev passed : HasRun main home first (past new) g.ones (g.given ++ new.dict.key ∷ []) left (g.taken + 1)
      passed = run_given main home first walk new g.ones g.given left g.taken g.run step

      rest_is : passed.waiting ≡ at.rest
      rest_is = given_waiting main home first walk new g.ones g.given left g.taken g.run step

      why : (budget.bases ≤ length g.ones) ⊎ Deep p sys rays budget first main new.dict.key
      why = ⊎_elim
          (λ (l : budget.bases ≤ s.count.bases). let b = g.bases in inl (omega (arith, l, b)))
          (λ (l : (0 < budget.depth) × (budget.depth ≤ t.depth)).
          let a = l.1 in let b = g.level in inr (l.0, suc g.run.depth, omega (arith, a, b, deep), above))
          must

      back_leads : LeadsOn p sys rays budget first main (g.met ++ given_back new.dict.key ∷ []) (length g.ones) passed.waiting
      back_leads =
          subst (LeadsOn p sys rays budget first main (g.met ++ given_back new.dict.key ∷ []) (length g.ones)) (sym rest_is)
          (leads_given_back (IsChildAt main first.root) (Deep p sys rays budget first main) budget.bases (first.job ∷ []) g.met
          (length g.ones) g.run.waiting new.dict.key at.rest g.leads at.first why)

      abbrev line : List ReplyLine
      line = job_line new.dict.key ∷ []

      pub goes_given : Runs (past new) more left t old then
      goes_given = record {
        search = elsewhere p sys rays walk vector g.search (past new) more passed.walk_in (step.phase ∙ g.search.phase)
            width;
        ones = g.ones;
        given = g.given ++ new.dict.key ∷ [];
        taken = g.taken + 1;
        run = passed;
        met = g.met ++ given_back new.dict.key ∷ [];
        leads = back_leads;
        ones_are = visited_as_before g.met new.dict.key g.ones g.ones_are;
        given_are = given_back-append g.met (given_back new.dict.key ∷ []) ∙ ap (λ ks. ks ++ new.dict.key ∷ []) g.given_are;
        vectors = g.vectors;
        shown = g.shown;
        lines = g.lines ++ line;
        written = writes_then old now then g.lines line g.written v.written;
        vectors_in = rows-append g.lines line ∙ append-nil (rows_in_lines g.lines) ∙ g.vectors_in;
        keys_in = keys-append g.lines line ∙ ap (λ ks. ks ++ new.dict.key ∷ []) g.keys_in;
        rows = v.rows ∙ g.rows;
        jobs = let a = v.jobs in let b = g.jobs in let l = length-append g.given (new.dict.key ∷ []) in omega (arith, a, b, l);
        bases = v.bases ∙ g.bases;
        level = let a = g.level in
            let b = given_depth main home first walk new g.ones g.given left g.taken g.run step in
            omega (arith, deep, a, b);
        low = let a = g.level in let b = low_here in omega (arith, deep, a, b);
        near = λ k c n d. still_waits k (subst (λ ks. Contains ks k) rest_is c) n d;
        many = let a = g.many in let b = ap length rest_is in let c = ap length at.first in
            let l = length-append g.given (new.dict.key ∷ []) in omega (arith, a, b, c, l);
        full = g.full;
        most = let a = g.most in let b = v.bases in omega (arith, a, b);
      }

  -- ---- back at the parent
  pub goes_back : (new : Walk) → IsVisit walk Back new → (t : Progress) (then : Option (List ℕ)) → t.depth ≡ s.depth - 1 →
      t.count ≡ s.count → then ≡ now → (more : Vector) → length more ≡ length vector → Runs new more left t old then
  goes_back new step t then deep counts same more width = record {
    search = elsewhere p sys rays walk vector g.search new more (step.walk main home g.search.walk_in)
        (step.phase ∙ g.search.phase) width;
    ones = g.ones;
    given = g.given;
    taken = g.taken + 1;
    run = behind;
    met = g.met;
    leads = subst (LeadsOn p sys rays budget first main g.met (length g.ones)) (sym waiting_is) g.leads;
    ones_are = g.ones_are;
    given_are = g.given_are;
    vectors = g.vectors;
    shown = g.shown;
    lines = g.lines;
    written = subst (λ b. WritesLines old b g.lines) (sym same) g.written;
    vectors_in = g.vectors_in;
    keys_in = g.keys_in;
    rows = ap (λ (c : Count). c.rows) counts ∙ g.rows;
    jobs = ap (λ (c : Count). c.jobs) counts ∙ g.jobs;
    bases = ap (λ (c : Count). c.bases) counts ∙ g.bases;
    level = let a = g.level in let b = up in omega (arith, deep, a, b);
    low = let a = g.low in omega (arith, deep, a);
    near = λ k c n d. g.near k (subst (λ ks. Contains ks k) waiting_is c) n d;
    many = let a = g.many in let b = ap length waiting_is in omega (arith, a, b);
    full = g.full;
    most = let a = g.most in let b = ap (λ (c : Count). c.bases) counts in omega (arith, a, b);
  }
    where
      behind : HasRun main home first new g.ones g.given left (g.taken + 1)
      behind = run_back main home first walk new g.ones g.given left g.taken g.run step

      waiting_is : behind.waiting ≡ g.run.waiting
      waiting_is = back_waiting main home first walk new g.ones g.given left g.taken g.run step

      up : g.run.depth ≡ suc behind.depth
      up = back_depth main home first walk new g.ones g.given left g.taken g.run step
