-- A run of a job, with its rows and the keys that it gives back in any order, parts the share of its key within its budget.
use Rattle.std.proofs.Common.{◌≡◌, inl, inr, ⊎_elim, ℕ, ◌+◌, ◌<◌, List, [], ◌∷◌, length, sym, ap, subst, arith}
use Rattle.std.specs.List.{Contains}
use Rattle.poly_num.specs.Vectors.{Vector}
use Rattle.linear_laws.proofs.Members.{same_first, Contains-nil, Contains-first, Contains-cons_cases}
use Rattle.search_laws.specs.Shares.{ListsAll}
use Rattle.work_core.specs.declared.budget.Budget.{Budget}
use Rattle.work_core.specs.Laws.{HasShares}
use Rattle.work_core.specs.Meanings.{Meaning, StandsUnder, IsKeyBelow}
use Rattle.work_core.specs.Orders.{Met, visited, given_back, keys_visited, keys_given_back}
use Rattle.work_core.specs.Outcomes.{IsShownAtOne, IsAtDepth, IsRun}
use Rattle.work_core.specs.Splits.{IsBudget, IsWithinBudget, Splits}
use Rattle.work_core.specs.Walks.{IsWalk, LeavesSplit, WalksSplit}
use Rattle.work_core.proofs.WalkLemmas.{walk_of}
use Rattle.job_laws.specs.Branches.{HasBranches}
use Rattle.job_laws.proofs.RunCounts.{no_more, full_or_deep}
use Rattle.job_laws.proofs.RunDepths.{IsHigh, AreHigh, high_given_back}
use Rattle.job_laws.proofs.RunWalks.{ShowsNothing, IsBelowSome, walk_of_run}

module _ (work : Meaning) (shares : HasShares work) (b : HasBranches work) (key : List ℕ) (budget : Budget)
    (is : work.is_key key) (range : IsBudget budget) (met : List Met) (run : IsRun work key budget met) where
  abbrev Deep : List ℕ → Type 0
  Deep = IsAtDepth work key budget

  abbrev At : List ℕ → ℕ → List ℕ → Type 0
  At = work.is_child_at

  -- of the key alone
  at_key : (P : List ℕ → Type 0) → P key → (one : List ℕ) → Contains (key ∷ []) one → P one
  at_key P h one m =
      ⊎_elim (λ (e : key ≡ one). subst P e h) (λ c. absurd (Contains-nil one c)) (Contains-cons_cases one key [] m)

  not_deep : Deep key → ⊥
  not_deep (some, d, le, deep) =
      let e : d ≡ 0 = shares.one_depth key key d 0 is deep (shares.itself key) in omega (arith, some, le, e)

  -- the key is visited
  visits_key : Contains (keys_visited met) key
  visits_key = by met run
    where
      by : (m : List Met) → IsRun work key budget m → Contains (keys_visited m) key
      by [] e = let l = ap length e in absurd (omega (arith, l))
      by (visited k ∷ m) (rest, e, few, high, cs, c, r) =
          subst (λ j. Contains (k ∷ keys_visited m) j) (sym (same_first key k [] rest e)) (Contains-first k (keys_visited m))
      by (given_back k ∷ m) (rest, e, inl l, r) = let s = range.some in absurd (omega (arith, l, s))
      by (given_back k ∷ m) (rest, e, inr d, r) = absurd (not_deep (subst Deep (sym (same_first key k [] rest e)) d))

  some_visited : (keys : List (List ℕ)) → Contains keys key → 0 < length keys
  some_visited [] m = absurd (Contains-nil key m)
  some_visited (k ∷ keys) m = omega arith

  walk : IsWalk work ShowsNothing (IsKeyBelow work key) (keys_visited met) (keys_given_back met) []
  walk = walk_of work ShowsNothing (IsBelowSome work shares b (key ∷ [])) (IsKeyBelow work key) (keys_visited met)
      (keys_given_back met) []
      (λ one. (
        λ u. at_key (λ k. IsKeyBelow work k one → IsKeyBelow work key one) (λ v. v) u.0 u.1 u.2,
        λ u. (key, Contains-first key [], u),
      ))
      (walk_of_run work shares b Deep budget.bases 0 (key ∷ []) met (at_key work.is_key is)
      ((λ one u v. Contains-nil v.0 v.1), tt) run)

  high : AreHigh work b key budget (keys_given_back met)
  high = high_given_back work b key budget budget.bases 0 (key ∷ []) met
      (at_key (IsHigh work b key budget) (is, 0, shares.itself key, λ some. omega (arith, some))) run

  -- with the rows, and the keys given back in any order
  module _ (rows : List Vector) (l : ListsAll (IsShownAtOne work (keys_visited met)) rows) (keys : List (List ℕ))
      (g : ListsAll (Contains (keys_given_back met)) keys) (law : WalksSplit work work.shows) where
    shown : IsWalk work work.shows (IsKeyBelow work key) (keys_visited met) keys rows
    shown = record {
      once = walk.once;
      only = walk.only;
      each = λ one u. ⊎_elim (λ c. inl c)
          (λ (x : (k : List ℕ) × Contains (keys_given_back met) k × StandsUnder work one k). inr (x.0, g.each x.0 x.1, x.2))
          (walk.each one u);
      not_both = λ one c u. walk.not_both one c (u.0, g.only u.0 u.1, u.2);
      given_once = g.once;
      given_keys = λ k c. walk.given_keys k (g.only k c);
      given_within = λ k one c u. walk.given_within k one (g.only k c) u;
      apart = λ j k one c d u v. walk.apart j k one (g.only j c) (g.only k d) u v;
      rows_once = l.once;
      rows_shown = l.only;
      shown_rows = λ one y c x. l.each y (one, c, x);
    }

    leaves : LeavesSplit work key (keys_visited met) keys rows
    leaves = law key is (keys_visited met) keys rows shown visits_key

    pub splits : Splits work key rows keys
    splits = leaves.splits

    pub within_budget : IsWithinBudget work key budget keys (length (keys_visited met))
    within_budget = record {
      whole = leaves.whole;
      left = leaves.left;
      weighs = leaves.weighs;
      weigh = leaves.weigh;
      visited = leaves.visits;
      some = some_visited (keys_visited met) visits_key;
      most = let m = no_more At Deep budget.bases 0 (key ∷ []) met run (omega arith) in omega (arith, m);
      given = λ one m. ⊎_elim (λ (q : 0 + length (keys_visited met) ≡ budget.bases). inl (omega (arith, q)))
          (λ (d : Deep one). inr (d.0, at_depth one (g.only one m) d))
          (full_or_deep At Deep budget.bases 0 (key ∷ []) met run (omega arith) one (g.only one m));
      no_deeper = λ some one d m x. let h = high one (g.only one m) in
          let e : d ≡ h.1 = shares.one_depth one key d h.1 h.0 x h.2 in let l = h.3 some in omega (arith, e, l);
    }
      where
        at_depth : (one : List ℕ) → Contains (keys_given_back met) one → Deep one → work.is_depth one key budget.depth
        at_depth one m (some, d, le, x) =
            let h = high one m in
            let e : d ≡ h.1 = shares.one_depth one key d h.1 h.0 x h.2 in
            let l = h.3 some in
            subst (λ n. work.is_depth one key n) (omega (arith, e, l, le)) x
