-- A run under a key on its way: what it has met, what waits, and what it has written; its beginning.
use Rattle.std.proofs.Common.{◌≡◌, ℕ, suc, ◌+◌, ◌*◌, ◌<◌, ◌≤◌, List, [], ◌∷◌, length, append-nil, Option, refl, sym, subst, ◌∙◌, arith}
use Rattle.std.specs.Prelude.{IsPermutation}
use Rattle.std.specs.List.{Contains}
use Rattle.std.proofs.lemmas.List.{length-map}
use Rattle.std.proofs.lemmas.List.Sorted.{IsPermutation-refl}
use Rattle.poly_num.specs.Vectors.{Vector}
use Rattle.poly_model.specs.declared.listed.Count.{Count}
use Rattle.poly_model.specs.LexOrder.{rows_in}
use Rattle.poly_model.specs.Dictionaries.{Table}
use Rattle.poly_model.specs.Spaces.{Space, main_space}
use Rattle.poly_model.specs.Subtrees.{IsSubtreeRoot}
use Rattle.poly_model.specs.Systems.{System, Polyhedron}
use Rattle.poly_model.specs.Tree.{IsAbove}
use Rattle.dictionary_laws.proofs.KeyExchange.{ascending_distinct}
use Rattle.search_laws.specs.Shares.{ListsAll, IsChild, IsChildAt, IsFeasibleKey}
use Rattle.search_laws.specs.SharesOfListings.{IsShownAtSome}
use Rattle.search_laws.proofs.Depths.{one_length}
use Rattle.search_laws.proofs.OnceLists.{no_longer}
use Rattle.countdown.specs.Digits.{enough}
use Rattle.dictionary.specs.Views.{table_of}
use Rattle.reverse_step.specs.Walks.{Walk, IsWalkIn, IsAtStart}
use Rattle.reverse_step.specs.Runs.{HasRun}
use Rattle.reverse_step.proofs.RunLemmas.{run_starts, starts_along, starts_waiting, starts_depth, some_left}
use Rattle.reverse_step.proofs.DepthLemmas.{child_depth, few_labels, few_children}
use Rattle.convert_core.specs.declared.rays.Rays.{Rays}
use Rattle.convert_core.specs.Rows.{columns_of, column_rows}
use Rattle.convert_core.specs.Searches.{IsSearch}
use Rattle.convert_core.proofs.Searching.{subtree_root, rows_here, elsewhere}
use Rattle.work_core.specs.declared.budget.Budget.{Budget}
use Rattle.work_core.specs.Orders.{Met, visited, keys_visited, keys_given_back, AreChildren}
use Rattle.work_core.specs.ReplyLines.{ReplyLine, WritesLines, rows_in_lines, keys_in_lines}
use Rattle.job_laws.specs.RunsInSpaces.{IsAtDepthIn}
use Rattle.job_laws.proofs.LeadLemmas.{Leads, leads_visited}
use Rattle.subtree_work.specs.declared.progress.Progress.{Progress}
use Rattle.subtree_work.specs.Rows.{lines_of_rows, IsShownOf}
use Rattle.subtree_work.specs.Steps.{VisitsBase}
use Rattle.subtree_work.proofs.InOrder.{are_children}
use Rattle.subtree_work.proofs.RowLines.{rows_of_rows, keys_of_rows}

module _ (p : Polyhedron) (sys : System) (rays : Rays) (budget : Budget) (first : Walk) where
  module _ (space : Space) where
    abbrev pub At : List ℕ → ℕ → List ℕ → Type 0
    At = IsChildAt space first.root

    abbrev pub Deep : List ℕ → Type 0
    Deep = IsAtDepthIn space first.root first.job budget

    -- all that is met under the job's root is what was met, and then what a run meets where so many were visited and these wait
    abbrev pub LeadsOn : List Met → ℕ → List (List ℕ) → Type 0
    LeadsOn = Leads At Deep budget.bases (first.job ∷ [])

  -- the keys in `met` are visited or given back, and the others wait; the lines of these were written, and are counted
  pub record Running (walk : Walk) (vector : Vector) (left : ℕ) (s : Progress) (old now : Option (List ℕ)) : Type 0 where
    pub search : IsSearch p sys rays walk vector
    pub ones : List (List ℕ)
    pub given : List (List ℕ)
    pub taken : ℕ
    pub run : HasRun (main_space p search.free) search.home first walk ones given left taken
    pub met : List Met
    pub leads : LeadsOn (main_space p search.free) met (length ones) run.waiting
    pub ones_are : IsPermutation (keys_visited met) ones
    pub given_are : keys_given_back met ≡ given
    pub vectors : List Vector
    pub shown : ListsAll (IsShownAtSome p first.root ones) vectors
    pub lines : List ReplyLine
    pub written : WritesLines old now lines
    pub vectors_in : rows_in_lines lines ≡ vectors
    pub keys_in : keys_in_lines lines ≡ given
    pub rows : s.count.rows ≡ length vectors
    pub jobs : s.count.jobs ≡ length given
    pub bases : s.count.bases ≡ length ones
    pub level : s.depth ≡ run.depth
    pub low : s.depth ≤ length ones
    -- a key that waits is no deeper than bases were visited
    pub near : (k : List ℕ) → Contains run.waiting k → (n : ℕ) →
        IsAbove (main_space p search.free) first.root n k first.job → n ≤ length ones
    pub many : length given + length run.waiting ≤ 8192 * length ones
    pub full : length vectors ≤ 8193 * length ones
    pub most : s.count.bases ≤ budget.bases

  -- ---- what holds of a walk on its way
  module _ (walk : Walk) (vector : Vector) (x : IsSearch p sys rays walk vector) where
    -- the rows shown at a cobasis are no more than its labels and one
    pub few_shown : (cs : List ℕ) → ListsAll (IsShownOf sys walk.root walk.dict (columns_of walk.dict)) cs → length cs ≤ 8193
    few_shown cs l =
        let st = x.walk_in.stands in
        let a = no_longer cs (columns_of walk.dict) l.once (λ c m. (l.only c m).0) in
        let b = few_labels (main_space p x.free) walk.root x.home st.feasible_root st.ascending walk.dict.key
        (table_of walk.dict) st.feasible in
        omega (arith, a, b)

    pub children_few : (cs : List (List ℕ)) → ListsAll (IsChild (main_space p x.free) walk.root walk.dict.key) cs →
        length cs ≤ 8192
    children_few cs l =
        let st = x.walk_in.stands in
        few_children (main_space p x.free) walk.root x.home st.feasible_root st.ascending walk.dict.key
        (table_of walk.dict) st.feasible cs l

  -- in a space in which it is a walk a key lies at one depth, and a child one deeper
  module _ (space : Space) (home : Table) (walk : Walk) (w : IsWalkIn space home walk) (root : walk.root ≡ first.root) where
    pub one_above : (k : List ℕ) (m n : ℕ) → IsFeasibleKey space first.root k → IsAbove space first.root m k first.job →
        IsAbove space first.root n k first.job → m ≡ n
    one_above k m n =
        subst (λ r. IsFeasibleKey space r k → IsAbove space r m k first.job → IsAbove space r n k first.job → m ≡ n) root
        (one_length space walk.root home w.stands.feasible_root
        (ascending_distinct (rows_in space.labels) w.stands.ascending) m n k first.job)

    pub one_deeper : (key child : List ℕ) (d n : ℕ) → IsChild space first.root key child →
        IsAbove space first.root d key first.job → IsAbove space first.root n child first.job → n ≡ suc d
    one_deeper key child d n c above x =
        one_above child n (suc d) (c.0, c.1) x (child_depth space first.root first.job key child d c above)

  -- ---- the beginning
  pub begins : (vector : Vector) → IsSearch p sys rays first vector → IsAtStart first → (left : ℕ) → enough ≤ left →
      (old now : Option (List ℕ)) (c : Count) (s : Progress) → c.rows ≡ 0 → c.jobs ≡ 0 → c.bases ≡ 0 → s.depth ≡ 0 →
      VisitsBase sys first old now c s.count → 0 < budget.bases → (more : Vector) → length more ≡ length vector →
      Running first more left s old now
  begins vector x a left e old now c s no_rows no_jobs no_bases depth v some more width = record {
    search = elsewhere p sys rays first vector x first more x.walk_in x.phase width;
    ones = first.dict.key ∷ [];
    given = [];
    taken = 0;
    run = run;
    met = visited first.job ∷ [];
    leads = leads;
    ones_are = subst (λ k. IsPermutation (first.job ∷ []) (k ∷ [])) (sym a.key) (IsPermutation-refl (first.job ∷ []));
    given_are = refl;
    vectors = ys;
    shown = rows_here p sys rays first vector x v.shown v.all;
    lines = lines_of_rows ys;
    written = v.written;
    vectors_in = rows_of_rows ys;
    keys_in = keys_of_rows ys;
    rows = let r = v.rows in omega (arith, r, no_rows, long);
    jobs = let r = v.jobs in omega (arith, r, no_jobs);
    bases = let r = v.bases in omega (arith, r, no_bases);
    level = depth ∙ sym (starts_depth main x.home first left a e x.walk_in);
    low = omega (arith, depth);
    near = λ k c n above.
        let one = one_deeper main x.home first x.walk_in refl first.dict.key k 0 n (children.only k c) a.key above in
        omega (arith, one);
    many = let f = children_few first vector x run.waiting children in omega (arith, f);
    full = let f = few_shown first vector x v.shown v.all in omega (arith, f, long);
    most = let r = v.bases in omega (arith, r, no_bases, some);
  }
    where
      main : Space
      main = main_space p x.free

      ys : List Vector
      ys = column_rows sys first.dict v.shown

      long : length ys ≡ length v.shown
      long = length-map v.shown _

      run : HasRun main x.home first first (first.dict.key ∷ []) [] left 0
      run = run_starts main x.home first left a e x.walk_in

      children : ListsAll (IsChild main first.root first.dict.key) run.waiting
      children = starts_waiting main x.home first left a e x.walk_in

      in_order : AreChildren (At main) first.job run.waiting
      in_order = subst (λ k. AreChildren (At main) k run.waiting) a.key
          (are_children main first.root first.dict.key (table_of first.dict) x.walk_in.stands.feasible run.waiting
          (starts_along main x.home first left a e x.walk_in))

      high : Deep main first.job → ⊥
      high (given, n, reaches, above) =
          let f : IsFeasibleKey main first.root first.job =
          subst (IsFeasibleKey main first.root) a.key (table_of first.dict, x.walk_in.stands.feasible) in
          let none = one_above main x.home first x.walk_in refl first.job n 0 f above refl in
          omega (arith, given, reaches, none)

      leads : LeadsOn main (visited first.job ∷ []) 1 run.waiting
      leads = subst (λ ws. LeadsOn main (visited first.job ∷ []) 1 ws) (append-nil run.waiting)
          (leads_visited (At main) (Deep main) budget.bases (first.job ∷ []) [] 0 (first.job ∷ []) first.job [] run.waiting
          (λ more r. r) refl some high in_order)

  pub some_are_left : (walk : Walk) (vector : Vector) (left : ℕ) (s : Progress) (old now : Option (List ℕ)) →
      Running walk vector left s old now → 0 < left
  some_are_left walk vector left s old now g =
      some_left (main_space p g.search.free) g.search.home first walk g.ones g.given left g.taken g.run

  pub going_root : (walk : Walk) (vector : Vector) (left : ℕ) (s : Progress) (old now : Option (List ℕ)) →
      Running walk vector left s old now → IsSubtreeRoot p first.root
  going_root walk vector left s old now g =
      subst (IsSubtreeRoot p) g.run.root (subtree_root p sys rays walk vector g.search)
