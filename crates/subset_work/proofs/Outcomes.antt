-- What a walk over the key of a job and all under it has met, written and counted is the outcome of the job.
use Rattle.std.proofs.Common.{◌≡◌, ⊎_elim, ℕ, ◌+◌, ◌≤◌, ◌<◌, List, [], ◌∷◌, length, Option, refl, sym, subst, arith}
use Rattle.std.specs.List.{Contains}
use Rattle.std.proofs.lemmas.List.Elements.{Contains-append_left, Contains-append_right, Contains-append_cases}
use Rattle.poly_num.specs.Vectors.{Vector}
use Rattle.poly_model.specs.declared.listed.Count.{Count}
use Rattle.poly_model.specs.Limits.{most_labels}
use Rattle.poly_model.specs.Systems.{Polyhedron}
use Rattle.linear_laws.specs.Distinct.{AreDistinct}
use Rattle.linear_laws.proofs.Distinct.{distinct_append}
use Rattle.linear_laws.proofs.Members.{Contains-nil, Contains-first, Contains-later, Contains-cons_cases}
use Rattle.search_laws.specs.Shares.{ListsAll}
use Rattle.poly_model.specs.declared.kind.WorkKind.TheVariants.{Subsets}
use Rattle.work_core.specs.declared.budget.Budget.{Budget}
use Rattle.work_core.specs.Meanings.{IsKeyBelow}
use Rattle.work_core.specs.Orders.{Meets, keys_visited, keys_given_back}
use Rattle.work_core.specs.Outcomes.{IsShownAtOne, IsAtDepth, IsRun, IsOutcome}
use Rattle.work_core.specs.ReplyLines.{rows_in_lines, keys_in_lines, IsWholeRun}
use Rattle.work_core.specs.Searches.{Search, by_subsets}
use Rattle.work_core.specs.Splits.{most_depth, IsBudget}
use Rattle.work_core.specs.Subsets.{IsSubsetKey, IsSubsetChildAt, IsShownAtList}
use Rattle.work_core.specs.Walks.{IsWalk}
use Rattle.work_core.proofs.SubsetShares.{has_shares, shows_at}
use Rattle.work_core.proofs.WalkLemmas.{under_itself}
use Rattle.job_laws.specs.Parts.{IsPart}
use Rattle.job_laws.proofs.PartLemmas.{part_is_run}
use Rattle.job_laws.proofs.RunWalks.{ShowsNothing, IsBelowSome, walk_of_run}
use Rattle.job_laws.proofs.SplitOutcomes.{outcomes_split}
use Rattle.job_laws.proofs.SubsetBranches.{subsets_branch}
use Rattle.subset_work.specs.Walked.{IsFar, AreShownAt, HasWalked}
use Rattle.subset_work.proofs.Depths.{run_at_depth}

-- the search by subsets of its polyhedron
abbrev pub subset_search : Polyhedron → Search
subset_search p = record { work = Subsets; polyhedron = p; root = [] }

module _ (p : Polyhedron) (narrow : p.n ≤ most_labels) where
  -- what is shown at keys, no two of which are one, key by key, is what is shown at one of them, each once
  shown_at_one : (keys : List (List ℕ)) (rows : List Vector) → AreDistinct keys → AreShownAt p keys rows →
      ListsAll (IsShownAtOne (by_subsets p) keys) rows
  shown_at_one [] rows o e = subst (λ xs. ListsAll (IsShownAtOne (by_subsets p) []) xs) (sym e) (record {
    once = tt;
    only = λ y c. absurd (Contains-nil y c);
    each = λ y w. absurd (Contains-nil w.0 w.1);
  })
  shown_at_one (k ∷ keys) rows o (here, rest, e, l, g) =
      let r = shown_at_one keys rest o.1 g in
      subst (λ xs. ListsAll (IsShownAtOne (by_subsets p) (k ∷ keys)) xs) (sym e) (record {
        once = distinct_append here rest l.once r.once
            (λ y c d. let b = r.only y d in
            o.0 (subst (Contains keys) ((shows_at p narrow).one_key b.0 k y b.2 (l.only y c)) b.1));
        only = λ y c. ⊎_elim (λ d. (k, Contains-first k keys, l.only y d))
            (λ d. let b = r.only y d in (b.0, Contains-later b.0 k keys b.1, b.2)) (Contains-append_cases here rest y c);
        each = λ y w. ⊎_elim
            (λ (q : k ≡ w.0). Contains-append_left here rest y
            (l.each y (subst (λ j. IsShownAtList p j y) (sym q) w.2)))
            (λ d. Contains-append_right here rest y (r.each y (w.0, d, w.2))) (Contains-cons_cases w.0 k keys w.1);
      })

  module _ (key : List ℕ) (is : IsSubsetKey p key) (budget : Budget) (range : IsBudget budget) (most longest : ℕ)
      (same : most ≡ budget.bases) (far : 0 < budget.depth → longest ≡ length key + budget.depth)
      (near : budget.depth ≡ 0 → most_depth < longest) (old new : Option (List ℕ)) (c d : Count)
      (w : HasWalked p key most longest (key ∷ []) old new c d) (rows : c.rows ≡ 0) (jobs : c.jobs ≡ 0)
      (bases : c.bases ≡ 0) where
    -- of the key alone
    at_key : (P : List ℕ → Type 0) → P key → (one : List ℕ) → Contains (key ∷ []) one → P one
    at_key P h one m =
        ⊎_elim (λ (e : key ≡ one). subst P e h) (λ m. absurd (Contains-nil one m)) (Contains-cons_cases one key [] m)

    run : IsRun (by_subsets p) key budget w.met
    run = subst (λ n. Meets (IsSubsetChildAt p) (IsAtDepth (by_subsets p) key budget) n 0 (key ∷ []) w.met) same
        (run_at_depth p key budget longest far near most 0 (key ∷ []) w.met
        (at_key (IsKeyBelow (by_subsets p) key) (is, under_itself (by_subsets p) (has_shares p) key))
        (part_is_run (IsSubsetChildAt p) (IsFar longest) most d.bases key w.met
        (subst (λ n. IsPart (IsSubsetChildAt p) (IsFar longest) most n (key ∷ []) w.met d.bases) bases w.part)))

    walk : IsWalk (by_subsets p) ShowsNothing (IsBelowSome (by_subsets p) (has_shares p) (subsets_branch p) (key ∷ []))
        (keys_visited w.met) (keys_given_back w.met) []
    walk = walk_of_run (by_subsets p) (has_shares p) (subsets_branch p) (IsAtDepth (by_subsets p) key budget) budget.bases 0
        (key ∷ []) w.met (at_key (IsSubsetKey p) is) ((λ one u v. Contains-nil v.0 v.1), tt) run

    outcome : IsOutcome (by_subsets p) key budget (rows_in_lines w.lines) (keys_in_lines w.lines) d.bases
    outcome = record {
      met = w.met;
      is_run = run;
      rows_are = shown_at_one (keys_visited w.met) (rows_in_lines w.lines) walk.once w.shown;
      keys_are = record {
        once = subst (λ ks. AreDistinct ks) (sym w.given) walk.given_once;
        only = λ k m. subst (λ ks. Contains ks k) w.given m;
        each = λ k m. subst (λ ks. Contains ks k) (sym w.given) m;
      };
      bases_are = let e = w.part.count in omega (arith, e, bases);
    }

    pub whole_run : IsWholeRun (by_subsets p) key budget old new d
    whole_run =
        let both = outcomes_split (subset_search p) refl narrow key budget (rows_in_lines w.lines)
        (keys_in_lines w.lines) d.bases is range outcome in
        record {
          lines = w.lines;
          written = w.written;
          splits = both.0;
          budgeted = both.1;
          rows = omega (arith, w.rows, rows);
          jobs = omega (arith, w.jobs, jobs);
          outcome = outcome;
        }
