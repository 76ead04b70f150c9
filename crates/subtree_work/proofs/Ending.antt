-- Where a run under a key ends: all lines written, or at an overflow, or within a line.
use Rattle.std.proofs.Common.{◌≡◌, inl, inr, ⊎_elim, ℕ, suc, ◌+◌, List, [], ◌∷◌, ◌++◌, length, Option, refl, sym, ap, subst, ◌∙◌}
use Rattle.std.specs.List.{All, Contains}
use Rattle.std.proofs.lemmas.List.Elements.{All-from_recursion, Contains-append_right}
use Rattle.std.proofs.lemmas.List.Sorted.{IsPermutation-sym, Contains-permutation, length_permutation}
use Rattle.poly_num.specs.Vectors.{Vector}
use Rattle.poly_model.specs.declared.kind.WorkKind.TheVariants.{Subtrees}
use Rattle.poly_model.specs.declared.overflow.Overflow.{Overflow as Passed}
use Rattle.poly_model.specs.Due.{IsDue, IsAskedInMain}
use Rattle.poly_model.specs.Spaces.{Space, main_space}
use Rattle.poly_model.specs.Subtrees.{IsSubtreeRoot, IsSubtreeKey, IsSubtreeDepth, InSubtree}
use Rattle.poly_model.specs.Systems.{System, Polyhedron}
use Rattle.linear_laws.proofs.Members.{Contains-nil, Contains-cons_cases}
use Rattle.listing_laws.proofs.ListLemmas.{all_members}
use Rattle.linear_laws.specs.Distinct.{AreDistinct}
use Rattle.search_laws.specs.Shares.{ListsAll, IsChildAt, IsFeasibleKey}
use Rattle.search_laws.specs.Splits.{IsSplit}
use Rattle.search_laws.specs.SharesOfListings.{IsShownAtSome, IsRun}
use Rattle.search_laws.proofs.Depths.{above_feasible}
use Rattle.search_laws.proofs.OnceLists.{same_lists}
use Rattle.search_laws.proofs.SubtreeRuns.{apart_once, runs_part}
use Rattle.search_laws.proofs.SubtreeShares as words
use Rattle.dictionary.specs.Views.{table_of}
use Rattle.reverse_step.specs.declared.walker.Visit.TheVariants.{New, End}
use Rattle.reverse_step.specs.Walks.{Walk, IsAtStart}
use Rattle.reverse_step.specs.Moves.{IsVisit}
use Rattle.reverse_step.specs.Children.{StopsWalk}
use Rattle.reverse_step.proofs.DepthLemmas.{stands_at_depth}
use Rattle.reverse_step.proofs.DueLemmas.{due_in_main}
use Rattle.reverse_step.proofs.RunLemmas.{run_over}
use Rattle.convert_core.specs.declared.rays.Rays.{Rays}
use Rattle.convert_core.specs.Rows.{column_rows}
use Rattle.convert_core.specs.Searches.{IsSearch}
use Rattle.convert_core.proofs.Searching.{subtree_root, some_rows_here, search_moves}
use Rattle.work_core.specs.declared.budget.Budget.{Budget}
use Rattle.work_core.specs.Meanings.{Meaning, IsKeyBelow}
use Rattle.work_core.specs.Orders.{keys_visited}
use Rattle.work_core.specs.Outcomes.{IsOutcome, IsShownAtOne, IsRun as IsRunOf}
use Rattle.work_core.specs.ReplyLines.{job_line, rows_in_lines, keys_in_lines, IsWholeRun, IsCutRun, IsTornRun}
use Rattle.work_core.specs.Searches.{Search, by_subtrees}
use Rattle.work_core.specs.Splits.{Splits, IsBudget, IsWithinBudget, AreWithin}
use Rattle.work_core.proofs.WalkedLemmas.{part_then, within-append}
use Rattle.job_laws.proofs.LeadLemmas.{leads_to_end}
use Rattle.job_laws.proofs.RunsInSpaces.{runs_in_space_are_runs}
use Rattle.job_laws.proofs.SplitOutcomes.{outcomes_split}
use Rattle.subtree_work.specs.declared.progress.Progress.{Progress}
use Rattle.subtree_work.specs.Rows.{lines_of_rows}
use Rattle.subtree_work.specs.Steps.{FailsAt}
use Rattle.subtree_work.proofs.RowLines.{rows_of_rows, keys_of_rows}
use Rattle.subtree_work.proofs.Running.{Running, Deep, going_root}
use Rattle.subtree_work.proofs.Going.{new_deep}

-- each has it
all_of : {X : Type 0} (P : X → Type 0) (xs : List X) → ((x : X) → Contains xs x → P x) → All P xs
all_of P xs h = All-from_recursion P xs (all_members P xs h)

module _ (p : Polyhedron) (sys : System) (rays : Rays) (budget : Budget) (first : Walk) where
  abbrev work : Meaning
  work = by_subtrees p first.root

  -- ---- within one line, or at its end
  -- what fails at a cobasis under the job's root
  pub fails_within : (walk : Walk) (vector : Vector) → IsSearch p sys rays walk vector → walk.root ≡ first.root →
      (depth : ℕ) → IsSubtreeDepth p first.root walk.dict.key first.job depth → (old new : Option (List ℕ)) →
      FailsAt sys walk old new → IsTornRun work first.job old new
  fails_within walk vector x same depth deep old new (inl f) =
      let ys = column_rows sys walk.dict f.shown in
      let some = some_rows_here p sys rays walk vector x f.shown f.once f.only in
      record {
        lines = lines_of_rows ys;
        written = f.written;
        within = record {
          rows_within = subst (All (InSubtree p first.root first.job)) (sym (rows_of_rows ys))
              (all_of (InSubtree p first.root first.job) ys (λ y c. in_share y (some.1 y c)));
          keys_within = subst (All (IsKeyBelow work first.job)) (sym (keys_of_rows ys))
              (all_of (IsKeyBelow work first.job) [] (λ k c. absurd (Contains-nil k c)));
        };
      }
    where
      in_share : (y : Vector) → IsShownAtSome p walk.root (walk.dict.key ∷ []) y → InSubtree p first.root first.job y
      in_share y s =
          let key : walk.dict.key ≡ s.0 =
          ⊎_elim (λ (e : walk.dict.key ≡ s.0). e) (λ (m : Contains [] s.0). absurd (Contains-nil s.0 m))
          (Contains-cons_cases s.0 walk.dict.key [] s.1) in
          subst (λ r. InSubtree p r first.job y) same (record {
            one = s.0;
            depth = depth;
            under = subst (λ k. IsSubtreeDepth p walk.root k first.job depth) key
                (subst (λ r. IsSubtreeDepth p r walk.dict.key first.job depth) (sym same) deep);
            place = s.2;
            shown = s.3;
          })
  fails_within walk vector x same depth deep old new (inr f) = record {
    lines = job_line walk.dict.key ∷ [];
    written = f;
    within = record {
      rows_within = all_of (InSubtree p first.root first.job) [] (λ y c. absurd (Contains-nil y c));
      keys_within = all_of (IsKeyBelow work first.job) (walk.dict.key ∷ []) (λ k c.
          subst (IsKeyBelow work first.job)
          (⊎_elim (λ (e : walk.dict.key ≡ k). e) (λ (m : Contains [] k). absurd (Contains-nil k m))
          (Contains-cons_cases k walk.dict.key [] c))
          (key, (depth, deep)));
    };
  }
    where
      key : IsSubtreeKey p first.root walk.dict.key
      key = subst (λ r. IsSubtreeKey p r walk.dict.key) same (record {
        free = x.free;
        columns = x.columns;
        table = table_of walk.dict;
        feasible = x.walk_in.stands.feasible;
      })

  -- at the job's root
  pub torn_first : (vector : Vector) → IsSearch p sys rays first vector → IsAtStart first → (old new : Option (List ℕ)) →
      FailsAt sys first old new → IsTornRun work first.job old new
  torn_first vector x a old new f =
      fails_within first vector x refl 0
      (subst (λ k. IsSubtreeDepth p first.root k first.job 0) (sym a.key)
      ((words.has_shares p first.root (subtree_root p sys rays first vector x)).itself first.job)) old new f

  -- ---- on the way
  module _ (walk : Walk) (vector : Vector) (left : ℕ) (s : Progress) (old now : Option (List ℕ))
      (g : Running p sys rays budget first walk vector left s old now) where
    root : IsSubtreeRoot p first.root
    root = going_root p sys rays budget first walk vector left s old now g

    run_now : IsRun p first.root first.job g.ones (g.run.waiting ++ g.given)
    run_now = record {
      free = g.search.free;
      columns = g.search.columns;
      split = subst (λ r. IsSplit (main_space p g.search.free) r first.job g.ones (g.run.waiting ++ g.given)) g.run.root
          (subst (λ j. IsSplit (main_space p g.search.free) walk.root j g.ones (g.run.waiting ++ g.given)) g.run.job
          g.run.split);
    }

    within_now : AreWithin work first.job (rows_in_lines g.lines) (keys_in_lines g.lines)
    within_now = record {
      rows_within = subst (All (InSubtree p first.root first.job)) (sym g.vectors_in)
          (all_of (InSubtree p first.root first.job) g.vectors (λ y c.
          ((runs_part p first.root root).share first.job g.ones (g.run.waiting ++ g.given) run_now y).1
          (inl (g.shown.only y c))));
      keys_within = subst (All (IsKeyBelow work first.job)) (sym g.keys_in)
          (all_of (IsKeyBelow work first.job) g.given (λ k c.
          (runs_part p first.root root).waiting_under first.job k g.ones (g.run.waiting ++ g.given) run_now
          (Contains-append_right g.run.waiting g.given k c)));
    }

    -- between two lines
    pub cut_now : IsCutRun work first.job old now
    cut_now = record { lines = g.lines; written = g.written; within = within_now }

    -- a pivot cannot be carried out
    pub due_now : (o : Passed) → StopsWalk walk.dict walk.root o → IsDue p o (IsAskedInMain p first.root o)
    due_now o h =
        subst (λ r. IsDue p o (IsAskedInMain p r o)) g.run.root
        (due_in_main p g.search.free g.search.columns walk.root g.search.home walk.dict g.search.phase
        g.search.walk_in.stands o h)

  module _ (walk : Walk) (vector : Vector) (left : ℕ) (s : Progress) (old now : Option (List ℕ))
      (g : Running p sys rays budget first walk vector (left + 1) s old now) where
    -- at a new cobasis
    pub torn_now : (new : Walk) → IsVisit walk New new → (then : Option (List ℕ)) → FailsAt sys new now then →
        IsTornRun work first.job old then
    torn_now new step then f = by (fails_within new vector
        (search_moves p sys rays walk vector g.search New new vector step refl) (step.root ∙ g.run.root) (suc g.run.depth)
        (new_deep p sys rays budget first walk vector left s old now g new step) now then f)
      where
        by : IsTornRun work first.job now then → IsTornRun work first.job old then
        by r = record {
          lines = g.lines ++ r.lines;
          written = part_then old now then g.lines r.lines g.written r.written;
          within = within-append work first.job g.lines r.lines (within_now walk vector (left + 1) s old now g) r.within;
        }

    -- ---- the end
    module _ (range : IsBudget budget) (new : Walk) (step : IsVisit walk End new) where
      abbrev main : Space
      main = main_space p g.search.free

      all_root : IsSubtreeRoot p first.root
      all_root = going_root p sys rays budget first walk vector (left + 1) s old now g

      over : IsSplit main first.root first.job g.ones g.given
      over = run_over main g.search.home first walk new g.ones g.given left g.taken g.run step

      none_waits : g.run.waiting ≡ []
      none_waits = (step.moves main g.search.home g.run.walk_in g.run.depth g.run.waiting g.run.waits).0

      is_run : IsRunOf work first.job budget g.met
      is_run = (runs_in_space_are_runs p first.root g.search.free g.search.columns first.job budget g.met).0
          (leads_to_end (IsChildAt main first.root) (Deep p sys rays budget first main) budget.bases (first.job ∷ []) g.met
          (length g.ones) g.run.waiting g.leads none_waits)

      rows_are : ListsAll (IsShownAtOne work (keys_visited g.met)) g.vectors
      rows_are = same_lists (IsShownAtSome p first.root g.ones) (IsShownAtOne work (keys_visited g.met))
          (λ y x. (
            x.0,
            Contains-permutation g.ones (keys_visited g.met) x.0
                (IsPermutation-sym (keys_visited g.met) g.ones g.ones_are) x.1,
            (x.2, x.3),
          ))
          (λ y x. (x.0, Contains-permutation (keys_visited g.met) g.ones x.0 g.ones_are x.1, x.2.0, x.2.1)) g.vectors g.shown

      job_key : IsSubtreeKey p first.root first.job
      job_key = subst (λ j. IsSubtreeKey p first.root j) g.run.job (subst (λ r. IsSubtreeKey p r walk.job) g.run.root
          (record { free = g.search.free; columns = g.search.columns; table = above.0; feasible = above.1 }))
        where
          above : IsFeasibleKey main walk.root walk.job
          above = above_feasible main walk.root g.search.home g.search.walk_in.stands.feasible_root g.run.depth walk.dict.key
              walk.job (table_of walk.dict, g.search.walk_in.stands.feasible)
              (stands_at_depth main g.search.home first walk g.ones g.given (left + 1) g.taken g.run)

      given_once : AreDistinct g.given
      given_once = apart_once main first.root g.given over.apart

      outcome : IsOutcome work first.job budget g.vectors g.given s.count.bases
      outcome = record {
        met = g.met;
        is_run = is_run;
        rows_are = rows_are;
        keys_are = subst (λ ks. ListsAll (Contains ks) g.given) (sym g.given_are)
            (record { once = given_once; only = λ k c. c; each = λ k c. c });
        bases_are = g.bases ∙ length_permutation (keys_visited g.met) g.ones g.ones_are;
      }

      abbrev search : Search
      search = record { work = Subtrees; polyhedron = p; root = first.root }

      parted : Splits work first.job g.vectors g.given × IsWithinBudget work first.job budget g.given s.count.bases
      parted = outcomes_split search all_root g.search.narrow first.job budget g.vectors g.given s.count.bases job_key range outcome

      abbrev EndsSo : List Vector → List (List ℕ) → Type 0
      EndsSo ys ks =
          Splits work first.job ys ks × IsWithinBudget work first.job budget ks s.count.bases
          × IsOutcome work first.job budget ys ks s.count.bases

      ends_so : EndsSo (rows_in_lines g.lines) (keys_in_lines g.lines)
      ends_so = subst (λ ys. EndsSo ys (keys_in_lines g.lines)) (sym g.vectors_in)
          (subst (EndsSo g.vectors) (sym g.keys_in) (parted.0, parted.1, outcome))

      pub whole_run : IsWholeRun work first.job budget old now s.count
      whole_run = record {
        lines = g.lines;
        written = g.written;
        splits = ends_so.0;
        budgeted = ends_so.1;
        outcome = ends_so.2;
        rows = g.rows ∙ ap length (sym g.vectors_in);
        jobs = g.jobs ∙ ap length (sym g.keys_in);
      }
