-- A search on its way: what is listed where it stands, one step further, at its end, and where it stops.
use Rattle.std.proofs.Common.{◌≡◌, ⊎_elim, ℕ, ◌+◌, ◌<◌, ◌≤◌, true, false, List, [], ◌∷◌, ◌++◌, length, Option, refl, sym, subst, ◌∙◌, arith}
use Rattle.std.specs.List.{Contains}
use Rattle.std.proofs.lemmas.Bool.{cases_Bool}
use Rattle.std.proofs.lemmas.List.Elements.{Contains-append_cases}
use Rattle.poly_num.specs.Vectors.{Vector}
use Rattle.poly_model.specs.declared.kind.Kind.{Kind}
use Rattle.poly_model.specs.declared.kind.Kind.TheVariants.{H, V}
use Rattle.poly_model.specs.declared.overflow.Phase.TheVariants.{Main}
use Rattle.poly_model.specs.Extreme.{IsExtreme, AreExtreme}
use Rattle.poly_model.specs.Labels.{IsRow, is_row}
use Rattle.poly_model.specs.PhaseOne.{IsSearchRoot}
use Rattle.poly_model.specs.Spaces.{Space, main_space}
use Rattle.poly_model.specs.Subtrees.{IsSubtreeRoot, IsSubtreeKey, IsShownAtKey}
use Rattle.poly_model.specs.Systems.{System, row_of, Polyhedron, cone_of}
use Rattle.linear_laws.specs.Distinct.{AreDistinct}
use Rattle.dictionary_laws.proofs.Filters.{filter_only}
use Rattle.tree_laws.proofs.ListedVectors.{searches_listing}
use Rattle.tree_laws.proofs.MainLabels.{main_in, other_has}
use Rattle.tree_laws.proofs.OneList.{same_columns}
use Rattle.search_laws.specs.Shares.{ListsAll, IsFeasibleUnder}
use Rattle.search_laws.specs.Splits.{IsSplit}
use Rattle.search_laws.specs.SharesOfListings.{IsShownAtSome, IsRun, IsSubtreeWeight}
use Rattle.search_laws.proofs.SearchRoots.{has_search_root}
use Rattle.search_laws.proofs.SubtreeRuns.{runs_part}
use Rattle.search_laws.proofs.SubtreeShares as words
use Rattle.listing_laws.proofs.Completions.{completed}
use Rattle.listing_laws.proofs.ListingLemmas.{are_extreme}
use Rattle.countdown.specs.Digits.{enough}
use Rattle.dictionary.specs.Views.{IsDictionaryIn}
use Rattle.hull_lift.specs.Facets.{HasPointRows}
use Rattle.reverse_step.specs.declared.walker.Visit.{Visit}
use Rattle.reverse_step.specs.declared.walker.Visit.TheVariants.{New, Back, End}
use Rattle.reverse_step.specs.Walks.{Walk, IsWalkIn}
use Rattle.reverse_step.specs.Moves.{IsVisit}
use Rattle.reverse_step.specs.Runs.{HasRun}
use Rattle.linear_laws.proofs.Members.{Contains-nil, Contains-cons_cases}
use Rattle.reverse_step.proofs.RunLemmas.{run_starts, some_left, none_given, not_visited, run_new, run_back, run_ends}
use Rattle.convert_core.specs.declared.rays.Rays.{Rays}
use Rattle.convert_core.specs.Rays.{HasLinearPoint, AreShown}
use Rattle.convert_core.specs.Rows.{IsColumnShown, CanTest, columns_of, column_rows}
use Rattle.convert_core.specs.Searches.{IsSearch, IsAtRoot}
use Rattle.convert_core.specs.Listed.{TakesSteps}
use Rattle.convert_core.proofs.RowLists.{turned, lists_vectors}
use Rattle.convert_core.proofs.RowsOf.{lists_rows, some_rows}
use Rattle.convert_core.proofs.ShownRows.{no_constant}

-- ---- the tests can be made
-- of a V file each row that is not linear has its label in the main space
row_label : (kind : Kind) (p : Polyhedron) (free : List ℕ) → IsRow (length (cone_of p).rows) → kind ≡ V → (i : ℕ) →
    0 < i → i ≤ length (cone_of p).rows → (row_of (cone_of p).rows i).linear ≡ false →
    Contains (main_in kind p free).labels i
row_label H p free few e i l h n = absurd cc
row_label V p free few e i l h n =
    (filter_only is_row _ i
    (other_has (cone_of p).rows (cone_of p).rows (λ m k. refl) few 0 p.n i
    (record { some = omega (arith, l); within = omega (arith, h); other = n }))).0

module _ (p : Polyhedron) (cone : System) (rays : Rays) (walk : Walk) (vector : Vector)
    (x : IsSearch p cone rays walk vector) where
  abbrev space : Space
  space = main_space p x.free

  pub is_dictionary : IsDictionaryIn space walk.dict
  is_dictionary = x.walk_in.stands.dictionary

  point_rows : p.kind ≡ V → (HasLinearPoint (cone_of p) → ⊥) → HasPointRows (cone_of p) walk.dict
  point_rows v none i l h point =
      subst (λ ls. Contains ls i) (sym is_dictionary.labels)
      (row_label p.kind p x.free x.few v i l h
      (⊎_elim
      (λ (t : (row_of (cone_of p).rows i).linear ≡ true).
      absurd (none (record { i = i; from_one = l; within = h; row = (t, point) })))
      (λ (n : (row_of (cone_of p).rows i).linear ≡ false). n)
      (cases_Bool (row_of (cone_of p).rows i).linear)))

  can_there : CanTest (cone_of p) walk.dict rays
  can_there = record {
    labels = λ c. no_constant p x.free x.columns x.few walk.root walk.dict is_dictionary x.walk_in.stands.feasible _ c refl;
    shown = subst (λ s. AreShown s rays) x.is_cone x.are_shown;
    points = point_rows;
  }

  pub can_test : CanTest cone walk.dict rays
  can_test = subst (λ s. CanTest s walk.dict rays) (sym x.is_cone) can_there

  -- ---- what is listed here
  pub subtree_root : IsSubtreeRoot p walk.root
  subtree_root =
      record { free = x.free; columns = x.columns; home = x.home; feasible = x.walk_in.stands.feasible_root }

  abbrev IsListed : ℕ → Type 0
  IsListed c = Contains (columns_of walk.dict) c × IsColumnShown cone walk.root walk.dict c

  pub rows_here : (cs : List ℕ) → ListsAll IsListed cs →
      ListsAll (IsShownAtSome p walk.root (walk.dict.key ∷ [])) (column_rows cone walk.dict cs)
  rows_here cs l =
      subst (λ s. ListsAll (IsShownAtSome p walk.root (walk.dict.key ∷ [])) (column_rows s walk.dict cs)) (sym x.is_cone)
      (lists_rows p x.free x.columns x.few walk.root walk.dict is_dictionary x.walk_in.stands.feasible rays can_there
      subtree_root cs
      (subst (λ s. ListsAll (λ c. Contains (columns_of walk.dict) c × IsColumnShown s walk.root walk.dict c) cs)
      x.is_cone l))

  pub some_rows_here : (cs : List ℕ) → AreDistinct cs → ((c : ℕ) → Contains cs c → IsListed c) →
      AreDistinct (column_rows cone walk.dict cs)
      × ((y : Vector) → Contains (column_rows cone walk.dict cs) y → IsShownAtSome p walk.root (walk.dict.key ∷ []) y)
  some_rows_here cs once only =
      subst (λ s. AreDistinct (column_rows s walk.dict cs) × ((y : Vector) → Contains (column_rows s walk.dict cs) y →
      IsShownAtSome p walk.root (walk.dict.key ∷ []) y)) (sym x.is_cone)
      (some_rows p x.free x.columns x.few walk.root walk.dict is_dictionary x.walk_in.stands.feasible rays can_there
      subtree_root cs once
      (subst (λ s. (c : ℕ) → Contains cs c → Contains (columns_of walk.dict) c × IsColumnShown s walk.root walk.dict c)
      x.is_cone only))

  pub extreme_of_some : (keys : List (List ℕ)) (y : Vector) → IsShownAtSome p walk.root keys y → IsExtreme (cone_of p) y
  extreme_of_some keys y s = (searches_listing p walk.root x.few subtree_root).only_extreme s.0 s.2 y s.3

  -- ---- elsewhere, with other room
  abbrev pub elsewhere : (new : Walk) (more : Vector) → IsWalkIn space x.home new → new.dict.phase ≡ Main →
      length more ≡ length vector → IsSearch p cone rays new more
  elsewhere new more w phase width = record {
    is_cone = x.is_cone;
    are_shown = x.are_shown;
    few = x.few;
    narrow = x.narrow;
    width = width ∙ x.width;
    free = x.free;
    columns = x.columns;
    home = x.home;
    walk_in = w;
    phase = phase;
  }

  pub another_vector : (more : Vector) → length more ≡ length vector → IsSearch p cone rays walk more
  another_vector more width = elsewhere walk more x.walk_in x.phase width

  -- one step further
  pub search_moves : (visit : Visit) (new : Walk) (more : Vector) → IsVisit walk visit new → length more ≡ length vector →
      IsSearch p cone rays new more
  search_moves visit new more v width =
      elsewhere new more (v.walk space x.home x.walk_in) (v.phase ∙ x.phase) width

-- ---- so far
-- the walk began at the root; the rows of the cobases visited were written, so many steps were counted, and some are left
pub record IsListedSoFar (p : Polyhedron) (cone : System) (rays : Rays) (first walk : Walk) (vector : Vector) (left : ℕ)
    (rows : List Vector) (before now : ℕ) : Type 0 where
  pub search : IsSearch p cone rays walk vector
  pub root : walk.root ≡ first.root
  pub from : IsAtRoot p first
  pub visited : List (List ℕ)
  pub taken : ℕ
  pub run : HasRun (main_space p search.free) search.home first walk visited [] left taken
  pub shown : ListsAll (IsShownAtSome p walk.root visited) rows
  pub steps : now ≤ before + taken

pub starts : (p : Polyhedron) (cone : System) (rays : Rays) (walk : Walk) (vector : Vector) (left : ℕ)
    (rows : List Vector) (before : ℕ) → IsSearch p cone rays walk vector → IsAtRoot p walk → enough ≤ left →
    ListsAll (IsShownAtSome p walk.root (walk.dict.key ∷ [])) rows →
    IsListedSoFar p cone rays walk walk vector left rows before before
starts p cone rays walk vector left rows before x a e l = record {
  search = x;
  root = refl;
  from = a;
  visited = walk.dict.key ∷ [];
  taken = 0;
  run = run_starts (main_space p x.free) x.home walk left a.start e x.walk_in;
  shown = l;
  steps = omega arith;
}

module _ (p : Polyhedron) (cone : System) (rays : Rays) (first walk : Walk) (vector : Vector) (left : ℕ)
    (rows : List Vector) (before now : ℕ) where
  pub some_are_left : IsListedSoFar p cone rays first walk vector left rows before now → 0 < left
  some_are_left x =
      some_left (main_space p x.search.free) x.search.home first walk x.visited [] left x.taken x.run

  module _ (x : IsListedSoFar p cone rays first walk vector (left + 1) rows before now) (new : Walk) (more : Vector)
      (width : length more ≡ length vector) (then : ℕ) (counted : then ≤ now + 1) where
    abbrev main : Space
    main = main_space p x.search.free

    steps_then : then ≤ before + (x.taken + 1)
    steps_then = let s = x.steps in omega (arith, s, counted)

    pub goes_on : IsVisit walk New new → (ys : List Vector) →
        ListsAll (IsShownAtSome p new.root (new.dict.key ∷ [])) ys →
        IsListedSoFar p cone rays first new more left (rows ++ ys) before then
    unfolding search_moves
    goes_on v ys l = record {
      search = search_moves p cone rays walk vector x.search New new more v width;
      root = v.root ∙ x.root;
      from = x.from;
      visited = new.dict.key ∷ x.visited;
      taken = x.taken + 1;
      run = run;
      shown = turned (IsShownAtSome p new.root (new.dict.key ∷ x.visited)) ys rows
          ((runs_part p new.root root).more_rows new.dict.key x.visited ys rows run.split.once.0 l
          (subst (λ r. ListsAll (IsShownAtSome p r x.visited) rows) (sym v.root) x.shown));
      steps = steps_then;
    }
      where
        run : HasRun main x.search.home first new (new.dict.key ∷ x.visited) [] left (x.taken + 1)
        run = run_new main x.search.home first walk new x.visited [] left x.taken x.run v

        root : IsSubtreeRoot p new.root
        root = subst (IsSubtreeRoot p) (sym v.root) (subtree_root p cone rays walk vector x.search)

    pub goes_back : IsVisit walk Back new → IsListedSoFar p cone rays first new more left rows before then
    unfolding search_moves
    goes_back v = record {
      search = search_moves p cone rays walk vector x.search Back new more v width;
      root = v.root ∙ x.root;
      from = x.from;
      visited = x.visited;
      taken = x.taken + 1;
      run = run_back main x.search.home first walk new x.visited [] left x.taken x.run v;
      shown = subst (λ r. ListsAll (IsShownAtSome p r x.visited) rows) (sym v.root) x.shown;
      steps = steps_then;
    }

    -- ---- the end
    pub lists_all : IsVisit walk End new → AreExtreme (cone_of p) rows
    lists_all v =
        are_extreme (cone_of p) rows
        (lists_vectors (IsExtreme (cone_of p)) rows (record {
          once = x.shown.once;
          only = λ y c. extreme_of_some p cone rays walk vector x.search x.visited y (x.shown.only y c);
          each = λ y e.
              let k = (searches_listing p walk.root x.search.few root).each_once y e in
              x.shown.each y (k.key, visited k.key k.place y k.shown, k.place, k.shown);
        }))
      where
        root : IsSubtreeRoot p walk.root
        root = subtree_root p cone rays walk vector x.search

        all : ListsAll (IsFeasibleUnder main walk.root walk.root) x.visited
        all =
            subst (λ j. ListsAll (IsFeasibleUnder main walk.root j) x.visited) (x.from.job ∙ sym x.root)
            (subst (λ r. ListsAll (IsFeasibleUnder main r first.job) x.visited) (sym x.root)
            (run_ends main x.search.home first walk new x.visited left x.taken x.run v))

        visited : (key : List ℕ) (place : Option ℕ) (y : Vector) → IsShownAtKey p walk.root key place y →
            Contains x.visited key
        visited key place y s =
            let k : IsSubtreeKey p walk.root key =
            record { free = s.free; columns = s.columns; table = s.table; feasible = s.feasible } in
            let u = (searches_listing p walk.root x.search.few root).under_root key k in
            all.each key
            (subst (λ f. IsFeasibleUnder (main_space p f) walk.root walk.root key) same
            (words.key_under_there p walk.root root walk.root key (k, u)))
          where
            same : root.free ≡ x.search.free
            same = same_columns p x.search.free root.free x.search.columns root.columns

-- ---- where it stops
module _ (p : Polyhedron) (cone : System) (rays : Rays) (first walk : Walk) (vector : Vector) (left : ℕ)
    (rows : List Vector) (before now : ℕ)
    (x : IsListedSoFar p cone rays first walk vector left rows before now) where
  -- some of the rows of a new cobasis more are extreme too, each once
  pub stops_after : (more : List Vector) → AreDistinct (rows ++ more) →
      ((y : Vector) → Contains more y → IsExtreme (cone_of p) y) →
      (rest : List Vector) × AreExtreme (cone_of p) ((rows ++ more) ++ rest)
  stops_after more once extreme =
      completed p (rows ++ more) once
      (λ y c. ⊎_elim
      (λ m. extreme_of_some p cone rays walk vector x.search x.visited y (x.shown.only y m))
      (extreme y) (Contains-append_cases rows more y c))

  -- what is shown at a new cobasis is shown at none before
  pub new_apart : (new : Walk) → IsVisit walk New new → (y : Vector) → IsShownAtSome p walk.root x.visited y →
      IsShownAtSome p new.root (new.dict.key ∷ []) y → ⊥
  new_apart new v y a b =
      let law = searches_listing p walk.root x.search.few root in
      let here = subst (λ r. IsShownAtSome p r (new.dict.key ∷ []) y) v.root b in
      let once = law.each_once y (law.only_extreme a.0 a.2 y a.3) in
      let same : a.0 ≡ here.0 = (once.only a.0 a.2 a.3).0 ∙ sym (once.only here.0 here.2 here.3).0 in
      let key : new.dict.key ≡ here.0 =
      ⊎_elim (λ (e : new.dict.key ≡ here.0). e) (λ (m : Contains [] here.0). absurd (Contains-nil here.0 m))
      (Contains-cons_cases here.0 new.dict.key [] here.1) in
      new_key (subst (Contains x.visited) (same ∙ sym key) a.1)
    where
      root : IsSubtreeRoot p walk.root
      root = subtree_root p cone rays walk vector x.search

      new_key : Contains x.visited new.dict.key → ⊥
      new_key = not_visited (main_space p x.search.free) x.search.home first walk new x.visited [] left x.taken x.run v

  pub stops_here : (rest : List Vector) × AreExtreme (cone_of p) (rows ++ rest)
  stops_here =
      completed p rows x.shown.once
      (λ y c. extreme_of_some p cone rays walk vector x.search x.visited y (x.shown.only y c))

-- ---- the steps
module _ (p : Polyhedron) (cone : System) (rays : Rays) (first walk : Walk) (vector : Vector)
    (x : IsSearch p cone rays walk vector) (root : walk.root ≡ first.root) (from : IsAtRoot p first)
    (visited : List (List ℕ)) (left taken : ℕ)
    (run : HasRun (main_space p x.free) x.home first walk visited [] left taken) (before : ℕ) where
  h : IsSubtreeRoot p walk.root
  h = subtree_root p cone rays walk vector x

  run_of : IsRun p walk.root walk.root visited run.waiting
  run_of = record {
    free = x.free;
    columns = x.columns;
    split = subst (λ j. IsSplit (main_space p x.free) walk.root j visited run.waiting)
        (run.job ∙ from.job ∙ sym root)
        (none_given (main_space p x.free) x.home first walk visited left taken run);
  }

  pub steps_of_run : (then : ℕ) → then ≤ before + taken + 1 → TakesSteps p before then
  steps_of_run then counted other bases r w =
      let one : other ≡ walk.root = (has_search_root p x.few).one other walk.root r
      (subst (IsSearchRoot p) (sym root) from.search_root) in
      let total = (words.has_shares p walk.root h).total run.waiting
      (λ k c. ((runs_part p walk.root h).waiting_under walk.root k visited run.waiting run_of c).0) in
      let all = (runs_part p walk.root h).weight walk.root visited run.waiting total.0 run_of total.1 in
      let same : bases ≡ length visited + total.0 =
      (words.has_shares p walk.root h).one_weight walk.root bases (length visited + total.0)
      (subst (λ r. IsSubtreeWeight p r r bases) one w) all in
      let moved = run.moved in
      omega (arith, counted, same, moved)

-- nothing was counted yet
pub steps_at_start : (p : Polyhedron) (cone : System) (rays : Rays) (walk : Walk) (vector : Vector) (before : ℕ) →
    IsSearch p cone rays walk vector → IsAtRoot p walk → TakesSteps p before before
steps_at_start p cone rays walk vector before x a =
    steps_of_run p cone rays walk walk vector x refl a (walk.dict.key ∷ []) enough 0
    (run_starts (main_space p x.free) x.home walk enough a.start (omega arith) x.walk_in) before before (omega arith)

pub takes_steps : (p : Polyhedron) (cone : System) (rays : Rays) (first walk : Walk) (vector : Vector) (left : ℕ)
    (rows : List Vector) (before now : ℕ) → IsListedSoFar p cone rays first walk vector left rows before now → (then : ℕ) →
    then ≤ now + 1 → TakesSteps p before then
takes_steps p cone rays first walk vector left rows before now x then counted =
    let s = x.steps in
    steps_of_run p cone rays first walk vector x.search x.root x.from x.visited left x.taken x.run before then
    (omega (arith, counted, s))
