-- A loop of steps from the start of a walk: what it has visited and given back, what waits, and how many steps are left.
use Rattle.std.proofs.Common.{◌≡◌, ◌≤◌, ◌<◌, ℕ, zero, suc, ◌+◌, List, [], ◌∷◌, ◌++◌, drop, append_assoc, length, length-append, refl, sym, ◌∙◌, subst, arith}
use Rattle.std.specs.List.{Contains}
use Rattle.std.proofs.lemmas.List.{append-nil}
use Rattle.std.proofs.lemmas.List.Elements.{Contains-append_left}
use Rattle.poly_model.specs.LexOrder.{rows_in}
use Rattle.poly_model.specs.Spaces.{Space}
use Rattle.poly_model.specs.Dictionaries.{Table}
use Rattle.linear_laws.specs.Distinct.{AreDistinct}
use Rattle.linear_laws.proofs.Members.{Contains-nil, Contains-first}
use Rattle.dictionary_laws.proofs.KeyExchange.{ascending_distinct}
use Rattle.dictionary.specs.Views.{table_of}
use Rattle.search_laws.specs.Shares.{ListsAll, IsFeasibleKey, IsChild, IsFeasibleUnder}
use Rattle.search_laws.specs.Weights.{IsWeight, IsTotal}
use Rattle.search_laws.specs.Splits.{IsSplit, AreSplit}
use Rattle.search_laws.proofs.ShareParts.{under_itself}
use Rattle.search_laws.proofs.Visits.{are_split}
use Rattle.countdown.specs.Digits.{enough}
use Rattle.reverse_step.specs.declared.walker.Visit.TheVariants.{New, Back, End}
use Rattle.reverse_step.specs.Waiting.{AreAlong}
use Rattle.reverse_step.specs.Walks.{Walk, IsWalkIn, Waits, IsAtStart}
use Rattle.search_laws.specs.Shares.{IsChildAt}
use Rattle.reverse_step.specs.Moves.{past, Moves, IsAtNew, IsVisit}
use Rattle.reverse_step.specs.Runs.{HasRun}
use Rattle.reverse_step.proofs.Along.{some_along, lists_children}
use Rattle.reverse_step.proofs.Bounds.{few_keys}

rows_once : (space : Space) (home : Table) (walk : Walk) → IsWalkIn space home walk → AreDistinct (rows_in space.labels)
rows_once space home walk w = ascending_distinct (rows_in space.labels) w.stands.ascending

laws_of : (space : Space) (home : Table) (walk : Walk) → IsWalkIn space home walk → AreSplit space walk.root
laws_of space home walk w = are_split space walk.root home w.stands.feasible_root (rows_once space home walk w)

-- a key that is one has itself under it
pub at_least_one : (space : Space) (root key : List ℕ) (w : ℕ) → IsWeight space root key w → IsFeasibleKey space root key →
    0 < w
at_least_one space root key w (ks, l, e) f = by ks (l.each key (f, under_itself space root key)) e
  where
    by : (ks : List (List ℕ)) → Contains ks key → length ks ≡ w → 0 < w
    by [] c e = absurd (Contains-nil key c)
    by (k ∷ ks) c e = omega (arith, e)

-- the root of the job is visited
pub run_starts : (space : Space) (home : Table) (first : Walk) (left : ℕ) → IsAtStart first → enough ≤ left →
    IsWalkIn space home first → HasRun space home first first (first.dict.key ∷ []) [] left 0
run_starts space home first left start e w = record {
  root = refl;
  job = refl;
  phase = refl;
  walk_in = w;
  waiting = cs.0;
  depth = zero;
  total = all.0;
  split = split;
  waits = (start.key, subst (λ n. AreAlong (IsChildAt space first.root) key (drop n key) cs.0) (sym start.at) cs.1);
  sum = all.1;
  few = let f = few_keys space first.root first.job (1 + all.0) w.stands.ascending
      (laws.weight first.job (key ∷ []) (cs.0 ++ []) all.0 split
      (subst (λ ks. IsTotal space first.root ks all.0) (sym (append-nil cs.0)) all.1)) in
      omega (arith, e, f);
  moved = refl;
}
  where
    key : List ℕ
    key = first.dict.key

    laws : AreSplit space first.root
    laws = laws_of space home first w

    cs : (cs : List (List ℕ)) × AreAlong (IsChildAt space first.root) key key cs
    cs = some_along space first.root home w.stands.feasible_root (rows_once space home first w) key (table_of first.dict)
        w.stands.feasible key (λ k c. c)

    own : IsSplit space first.root key (key ∷ []) (cs.0 ++ [])
    own = laws.visit key key [] [] cs.0 (laws.start key (table_of first.dict, w.stands.feasible))
        (lists_children space first.root home w.stands.feasible_root (rows_once space home first w) key
        (table_of first.dict) w.stands.feasible cs.0 cs.1)

    split : IsSplit space first.root first.job (key ∷ []) (cs.0 ++ [])
    split = subst (λ j. IsSplit space first.root j (key ∷ []) (cs.0 ++ [])) start.key own

    all : (w : ℕ) × IsTotal space first.root cs.0 w
    all = laws.total cs.0 (λ k c. (split.waits k (Contains-append_left cs.0 [] k c)).0)

-- what waits then are the children of the root of the job, in the order of their columns
pub starts_along : (space : Space) (home : Table) (first : Walk) (left : ℕ) (start : IsAtStart first) (e : enough ≤ left)
    (w : IsWalkIn space home first) →
    AreAlong (IsChildAt space first.root) first.dict.key first.dict.key
    (HasRun.waiting (run_starts space home first left start e w))
unfolding run_starts
starts_along space home first left start e w =
    subst (λ n. AreAlong (IsChildAt space first.root) first.dict.key (drop n first.dict.key)
    (HasRun.waiting (run_starts space home first left start e w))) start.at
    (HasRun.waits (run_starts space home first left start e w)).1

pub starts_waiting : (space : Space) (home : Table) (first : Walk) (left : ℕ) (start : IsAtStart first) (e : enough ≤ left)
    (w : IsWalkIn space home first) →
    ListsAll (IsChild space first.root first.dict.key) (HasRun.waiting (run_starts space home first left start e w))
starts_waiting space home first left start e w =
    lists_children space first.root home w.stands.feasible_root (rows_once space home first w) first.dict.key
    (table_of first.dict) w.stands.feasible (HasRun.waiting (run_starts space home first left start e w))
    (starts_along space home first left start e w)

pub starts_depth : (space : Space) (home : Table) (first : Walk) (left : ℕ) (start : IsAtStart first) (e : enough ≤ left)
    (w : IsWalkIn space home first) → HasRun.depth (run_starts space home first left start e w) ≡ zero
unfolding run_starts
starts_depth space home first left start e w = refl

-- so a counter that is not below it can be lowered
pub some_left : (space : Space) (home : Table) (first walk : Walk) (visited given : List (List ℕ)) (left taken : ℕ) →
    HasRun space home first walk visited given left taken → 0 < left
some_left space home first walk visited given left taken h = let f = h.few in omega (arith, f)

-- where none is given back, all that are not visited are under those that wait
pub none_given : (space : Space) (home : Table) (first walk : Walk) (visited : List (List ℕ)) (left taken : ℕ)
    (h : HasRun space home first walk visited [] left taken) → IsSplit space walk.root walk.job visited h.waiting
none_given space home first walk visited left taken h =
    subst (λ ks. IsSplit space walk.root walk.job visited ks) (append-nil h.waiting) h.split

-- a new cobasis waited
module _ (space : Space) (home : Table) (first old new : Walk) (visited given : List (List ℕ)) (left taken : ℕ)
    (h : HasRun space home first old visited given left taken) (step : IsVisit old New new) where
  pub at_new : IsAtNew space new h.depth h.waiting
  at_new = step.moves space home h.walk_in h.depth h.waiting h.waits

  pub first_waits : IsSplit space old.root old.job visited (new.dict.key ∷ at_new.rest ++ given)
  first_waits = subst (λ ks. IsSplit space old.root old.job visited (ks ++ given)) at_new.first h.split

  pub waited : Contains (h.waiting ++ given) new.dict.key
  waited = subst (λ ks. Contains (ks ++ given) new.dict.key) (sym at_new.first)
      (Contains-first new.dict.key (at_new.rest ++ given))

  -- and was not visited
  pub not_visited : Contains visited new.dict.key → ⊥
  not_visited c = h.split.not_both new.dict.key c (record {
    feasible = (h.split.waits new.dict.key waited).0;
    key = new.dict.key;
    member = waited;
    under = under_itself space old.root new.dict.key;
  })

-- ---- one step
module _ (space : Space) (home : Table) (first old new : Walk) (visited given : List (List ℕ)) (left taken : ℕ)
    (h : HasRun space home first old visited given (left + 1) taken) where
  -- one more is visited
  pub run_new : IsVisit old New new → HasRun space home first new (new.dict.key ∷ visited) given left (taken + 1)
  run_new step = record {
    root = step.root ∙ h.root;
    job = step.job ∙ h.job;
    phase = step.phase ∙ h.phase;
    walk_in = step.walk space home h.walk_in;
    waiting = x.cs ++ x.rest;
    depth = suc h.depth;
    total = after.0;
    split = subst (λ r. IsSplit space r new.job (new.dict.key ∷ visited) ((x.cs ++ x.rest) ++ given)) (sym step.root)
        (subst (λ j. IsSplit space old.root j (new.dict.key ∷ visited) ((x.cs ++ x.rest) ++ given)) (sym step.job) split);
    waits = x.waits;
    sum = subst (λ r. IsTotal space r (x.cs ++ x.rest) after.0) (sym step.root) after.1;
    few = let f = h.few in let g = falls in omega (arith, f, g);
    moved = let m = h.moved in omega (arith, m);
  }
    where
      x : IsAtNew space new h.depth h.waiting
      x = at_new space home first old new visited given (left + 1) taken h step

      laws : AreSplit space old.root
      laws = laws_of space home old h.walk_in

      listed : ListsAll (IsChild space old.root new.dict.key) x.cs
      listed = subst (λ r. ListsAll (IsChild space r new.dict.key) x.cs) step.root x.children

      before : IsSplit space old.root old.job visited (new.dict.key ∷ x.rest ++ given)
      before = first_waits space home first old new visited given (left + 1) taken h step

      split : IsSplit space old.root old.job (new.dict.key ∷ visited) ((x.cs ++ x.rest) ++ given)
      split = subst (λ ks. IsSplit space old.root old.job (new.dict.key ∷ visited) ks)
          (sym (append_assoc x.cs x.rest given)) (laws.visit old.job new.dict.key visited (x.rest ++ given) x.cs before listed)

      after : (w : ℕ) × IsTotal space old.root (x.cs ++ x.rest) w
      after = laws.total (x.cs ++ x.rest) (λ k c. (split.waits k (Contains-append_left (x.cs ++ x.rest) given k c)).0)

      falls : h.total ≡ suc after.0
      falls = laws.one_total (new.dict.key ∷ x.rest) h.total (suc after.0)
          (subst (λ ks. IsTotal space old.root ks h.total) x.first h.sum)
          (laws.falls new.dict.key x.rest x.cs after.0
          (before.waits new.dict.key (Contains-first new.dict.key (x.rest ++ given))).0 listed after.1)

  -- it is given back, and its columns are passed over
  pub run_given : IsVisit old New new →
      HasRun space home first (past new) visited (given ++ new.dict.key ∷ []) left (taken + 1)
  run_given step = record {
    root = step.root ∙ h.root;
    job = step.job ∙ h.job;
    phase = step.phase ∙ h.phase;
    walk_in = record { stands = walks.stands; kept = walks.kept };
    waiting = x.rest;
    depth = suc h.depth;
    total = parts.1;
    split = subst (λ r. IsSplit space r new.job visited (x.rest ++ (given ++ new.dict.key ∷ []))) (sym step.root)
        (subst (λ j. IsSplit space old.root j visited (x.rest ++ (given ++ new.dict.key ∷ []))) (sym step.job) split);
    waits = x.passed;
    sum = subst (λ r. IsTotal space r x.rest parts.1) (sym step.root) parts.3;
    few = let f = h.few in let g = parts.4 in let m = some in omega (arith, f, g, m);
    moved = let m = h.moved in let l = length-append given (new.dict.key ∷ []) in omega (arith, m, l);
  }
    where
      x : IsAtNew space new h.depth h.waiting
      x = at_new space home first old new visited given (left + 1) taken h step

      walks : IsWalkIn space home new
      walks = step.walk space home h.walk_in

      before : IsSplit space old.root old.job visited (new.dict.key ∷ x.rest ++ given)
      before = first_waits space home first old new visited given (left + 1) taken h step

      split : IsSplit space old.root old.job visited (x.rest ++ (given ++ new.dict.key ∷ []))
      split = subst (λ ks. IsSplit space old.root old.job visited ks) (append_assoc x.rest given (new.dict.key ∷ []))
          (((laws_of space home old h.walk_in).to_front old.job new.dict.key visited (x.rest ++ given) []).1
          (subst (λ ks. IsSplit space old.root old.job visited (new.dict.key ∷ ks)) (sym (append-nil (x.rest ++ given))) before))

      parts : (u : ℕ) × (v : ℕ) × IsWeight space old.root new.dict.key u × IsTotal space old.root x.rest v
          × (h.total ≡ u + v)
      parts = subst (λ ks. IsTotal space old.root ks h.total) x.first h.sum

      some : 0 < parts.0
      some = at_least_one space old.root new.dict.key parts.0 parts.2
          (before.waits new.dict.key (Contains-first new.dict.key (x.rest ++ given))).0

  -- what waits then, and where
  pub new_waiting : (step : IsVisit old New new) →
      HasRun.waiting (run_new step)
      ≡ IsAtNew.cs (at_new space home first old new visited given (left + 1) taken h step)
      ++ IsAtNew.rest (at_new space home first old new visited given (left + 1) taken h step)
  unfolding run_new
  new_waiting step = refl

  pub new_depth : (step : IsVisit old New new) → HasRun.depth (run_new step) ≡ suc h.depth
  unfolding run_new
  new_depth step = refl

  pub given_waiting : (step : IsVisit old New new) →
      HasRun.waiting (run_given step)
      ≡ IsAtNew.rest (at_new space home first old new visited given (left + 1) taken h step)
  unfolding run_given
  given_waiting step = refl

  pub given_depth : (step : IsVisit old New new) → HasRun.depth (run_given step) ≡ suc h.depth
  unfolding run_given
  given_depth step = refl

  -- the same are visited and given back
  pub at_back : IsVisit old Back new → (n : ℕ) × (h.depth ≡ suc n) × Waits space new n h.waiting
  at_back step = step.moves space home h.walk_in h.depth h.waiting h.waits

  pub run_back : IsVisit old Back new → HasRun space home first new visited given left (taken + 1)
  run_back step =
      let (d, e, w) = at_back step in
      record {
        root = step.root ∙ h.root;
        job = step.job ∙ h.job;
        phase = step.phase ∙ h.phase;
        walk_in = step.walk space home h.walk_in;
        waiting = h.waiting;
        depth = d;
        total = h.total;
        split = subst (λ r. IsSplit space r new.job visited (h.waiting ++ given)) (sym step.root)
            (subst (λ j. IsSplit space old.root j visited (h.waiting ++ given)) (sym step.job) h.split);
        waits = w;
        sum = subst (λ r. IsTotal space r h.waiting h.total) (sym step.root) h.sum;
        few = let f = h.few in omega (arith, f, e);
        moved = let m = h.moved in omega (arith, m, e);
      }

  pub back_waiting : (step : IsVisit old Back new) → HasRun.waiting (run_back step) ≡ h.waiting
  unfolding run_back
  back_waiting step = refl

  pub back_depth : (step : IsVisit old Back new) → h.depth ≡ suc (HasRun.depth (run_back step))
  unfolding run_back
  back_depth step = (at_back step).1

  -- ---- the end
  -- each under the job's root is visited, or is under one that is given back
  pub run_over : IsVisit old End new → IsSplit space first.root first.job visited given
  run_over step = by (step.moves space home h.walk_in h.depth h.waiting h.waits)
    where
      by : Moves space new h.depth h.waiting End → IsSplit space first.root first.job visited given
      by (e, d) =
          subst (λ r. IsSplit space r first.job visited given) h.root
          (subst (λ j. IsSplit space old.root j visited given) h.job
          (subst (λ ks. IsSplit space old.root old.job visited (ks ++ given)) e h.split))

-- where none is given back, all are visited, each once
pub run_ends : (space : Space) (home : Table) (first old new : Walk) (visited : List (List ℕ)) (left taken : ℕ) →
    HasRun space home first old visited [] (left + 1) taken → IsVisit old End new →
    ListsAll (IsFeasibleUnder space first.root first.job) visited
run_ends space home first old new visited left taken h step =
    subst (λ r. ListsAll (IsFeasibleUnder space r first.job) visited) h.root
    ((laws_of space home old h.walk_in).finished first.job visited
    (subst (λ r. IsSplit space r first.job visited []) (sym h.root)
    (run_over space home first old new visited [] left taken h step)))
